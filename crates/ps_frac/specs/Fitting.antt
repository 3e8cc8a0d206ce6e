-- Numbers that are kept where they fit.
use Rattle.std.specs.Prelude.{ℕ, ◌<◌, ℤ, Option, unsigned_abs}
use Rattle.std.specs.Option.{SomeIff}
use Rattle.ps_meaning.specs.Gcd.{gcd}
use Rattle.ps_meaning.specs.Rational.{Rational, add}
use Rattle.ps_meaning.specs.Wide.{Fits, size_limit, SumOverFits, sum_over, sum_under}

-- this signed number, exactly where it fits
abbrev pub IfFits : ℤ → Option ℤ → Type 0
IfFits z kept = SomeIff kept (Fits z) z

-- this size, exactly where it fits
abbrev pub IfSizeFits : ℕ → Option ℕ → Type 0
IfSizeFits n kept = SomeIff kept (n < size_limit) n

-- what the numerator of x and the denominator of y have in common
abbrev pub common : Rational → Rational → ℕ
common x y = gcd (unsigned_abs x.over) y.under

-- the numerator of a sum over the least common denominator, exactly where it and its two parts fit
abbrev pub IfSumOverFits : Rational → Rational → Option ℤ → Type 0
IfSumOverFits x y kept = SomeIff kept (SumOverFits x y) (sum_over x y)

-- the sum, exactly where its denominator fits
abbrev pub IfSumUnderFits : Rational → Rational → Option Rational → Type 0
IfSumUnderFits x y kept = SomeIff kept (sum_under x y < size_limit) (add x y)
