-- The named numbers of sums and products of fractions, and when one of them is too large.
use Rattle.std.specs.Prelude.{ℕ, ◌*◌, ◌/◌, ◌^◌, ◌<◌, ℤ, pos, ◌+ℤ◌, ◌*ℤ◌, unsigned_abs, int_div}
use Rattle.ps_meaning.specs.Gcd.{gcd}
use Rattle.ps_meaning.specs.Rational.{Rational}

-- above the size of each number that a fraction holds: 2^127
abbrev pub size_limit : ℕ
size_limit = 2 ^ 127

-- at most 2^127 - 1 in size
abbrev pub Fits : ℤ → Type 0
Fits z = unsigned_abs z < size_limit

-- a/b times c/d, after gcd(|a|, d) and gcd(|c|, b) were cancelled: the numerator
abbrev pub product_over : Rational → Rational → ℤ
product_over x y = int_div x.over (pos (gcd (unsigned_abs x.over) y.under)) *ℤ int_div y.over
    (pos (gcd (unsigned_abs y.over) x.under))

-- the denominator of a/b times c/d, after the same was cancelled
abbrev pub product_under : Rational → Rational → ℕ
product_under x y = (x.under / gcd (unsigned_abs y.over) x.under) * (y.under / gcd (unsigned_abs x.over) y.under)

-- both named numbers of a product fit
abbrev pub ProductFits : Rational → Rational → Type 0
ProductFits x y = Fits (product_over x y) × (product_under x y < size_limit)

-- a named number of a product is too large
unfoldable pub ProductIsWide : Rational → Rational → Type 0
ProductIsWide x y = ¬ ProductFits x y

-- a/b plus c/d, with g = gcd(b, d): a * (d/g)
abbrev pub sum_left : Rational → Rational → ℤ
sum_left x y = x.over *ℤ pos (y.under / gcd x.under y.under)

-- a/b plus c/d, with g = gcd(b, d): c * (b/g)
abbrev pub sum_right : Rational → Rational → ℤ
sum_right x y = y.over *ℤ pos (x.under / gcd x.under y.under)

-- a/b plus c/d, with g = gcd(b, d): the sum t = a * (d/g) + c * (b/g)
abbrev pub sum_over : Rational → Rational → ℤ
sum_over x y = sum_left x y +ℤ sum_right x y

-- a/b plus c/d, with g = gcd(b, d) and h = gcd(t, g): the denominator (b/g) * (d/h)
abbrev pub sum_under : Rational → Rational → ℕ
sum_under x y = (x.under / gcd x.under y.under) * (y.under / gcd (unsigned_abs (sum_over x y)) (gcd x.under y.under))

-- the numerator of a sum and its two parts fit
abbrev pub SumOverFits : Rational → Rational → Type 0
SumOverFits x y = Fits (sum_left x y) × Fits (sum_right x y) × Fits (sum_over x y)

-- all named numbers of a sum fit
abbrev pub SumFits : Rational → Rational → Type 0
SumFits x y = SumOverFits x y × (sum_under x y < size_limit)

-- a named number of a sum is too large
unfoldable pub SumIsWide : Rational → Rational → Type 0
SumIsWide x y = ¬ SumFits x y
