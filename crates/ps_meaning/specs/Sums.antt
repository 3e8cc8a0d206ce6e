-- Sums of rational numbers, and weighted sums of signed whole numbers over a list.
use Rattle.std.specs.Prelude.{ℕ, zero, suc, ℤ, pos, ◌+ℤ◌, List, [], ◌∷◌}
use Rattle.ps_meaning.specs.Rational.{Rational, add, zero_q}

-- f 0 + .. + f (n - 1)
abbrev pub sum_to : ℕ → (ℕ → Rational) → Rational
sum_to zero f = zero_q
sum_to (suc n) f = add (sum_to n f) (f n)

-- f 0 + .. + f (n - 1), of whole numbers
abbrev pub int_sum_to : ℕ → (ℕ → ℤ) → ℤ
int_sum_to zero f = pos 0
int_sum_to (suc n) f = int_sum_to n f +ℤ f n

-- the sum of what each item of a list weighs
abbrev pub sum_of : {A : Type 0} → (A → ℤ) → List A → ℤ
sum_of weight [] = pos 0
sum_of weight (x ∷ xs) = weight x +ℤ sum_of weight xs
