-- The order of the rational numbers.
use Rattle.std.specs.Prelude.{pos, ◌*ℤ◌, ◌<ℤ◌, ◌≤ℤ◌}
use Rattle.std.specs.Ordering.{int_cmp}
use Rattle.std.specs.declared.cmp.Ordering.{Ordering}
use Rattle.ps_meaning.specs.Rational.{Rational, sub}

-- the number is at least 0
abbrev pub IsNonneg : Rational → Type 0
IsNonneg x = pos 0 ≤ℤ x.over

-- the number is above 0
abbrev pub IsAbove : Rational → Type 0
IsAbove x = pos 0 <ℤ x.over

-- the first number is at most the second
abbrev pub AtMost : Rational → Rational → Type 0
AtMost x y = IsNonneg (sub y x)

-- less, by the cross products
abbrev pub IsLess : Rational → Rational → Type 0
IsLess x y = (x.over *ℤ pos y.under) <ℤ (y.over *ℤ pos x.under)

-- the order of two numbers, which is that of their cross products
abbrev pub order_of : Rational → Rational → Ordering
order_of x y = int_cmp (x.over *ℤ pos y.under) (y.over *ℤ pos x.under)
