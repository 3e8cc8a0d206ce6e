-- Sums of entries, over one denominator.
use Rattle.std.specs.Prelude.{◌≡◌, ◌<◌, ◌^◌, ℤ, unsigned_abs}
use Rattle.ps_meaning.specs.Rational.{Rational, fraction, add, mul}
use Rattle.ps_meaning.specs.Wide.{SumIsWide}
use Rattle.ps_whole.specs.declared.sums.WholeSum.{WholeSum}

-- what a sum comes to
abbrev pub value_of : WholeSum → Rational
value_of s = fraction s.over s.under

-- both numbers of a sum are below 2^126 in size, and the denominator isn't 0
pub record IsSmallSum (s : WholeSum) : Type 0 where
  pub positive : 0 < s.under
  pub over : unsigned_abs s.over < 2 ^ 126
  pub under : s.under < 2 ^ 126

-- the sum of two numbers, which isn't too large for fractions either
pub record IsSumOf (x y : Rational) (s : WholeSum) : Type 0 where
  pub small : IsSmallSum s
  pub value : value_of s ≡ add x y
  pub narrow : ¬ SumIsWide x y

-- a sum with a cost times an entry
abbrev pub IsSumWith : WholeSum → ℤ → Rational → WholeSum → Type 0
IsSumWith sum cost entry s = IsSumOf (value_of sum) (mul (fraction cost 1) entry) s
