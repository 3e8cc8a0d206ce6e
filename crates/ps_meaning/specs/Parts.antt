-- Sizes and parts of numbers, as lowest terms need them.
use Rattle.std.proofs.Common.{◌≡◌, ℕ, suc, ◌/◌, ◌<◌, ℤ, pos, negsuc, neg_ℤ, unsigned_abs, int_div, refl, subst, arith}
use Rattle.std.proofs.lemmas.Int.{ints}
use Rattle.std.proofs.Math.Nat.{div-mul_cancel, dvd-mul_right, pos_of_dvd_of_pos}
use Rattle.std.specs.Int.{◌∣◌}

-- a number and its opposite have the same size
pub abs_neg : (z : ℤ) → unsigned_abs (neg_ℤ z) ≡ unsigned_abs z
abs_neg z = omega (arith, ints)

-- the size of a quotient is the quotient of the sizes
pub quot_abs : (z : ℤ) (g : ℕ) → unsigned_abs (int_div z (pos g)) ≡ unsigned_abs z / g
quot_abs (pos a) g = refl
quot_abs (negsuc a) g = abs_neg (pos (suc a / g))

-- a number divided by one of its divisors divides it
pub part_of : (a g : ℕ) → g ∣ a → (a / g) ∣ a
part_of a g d = subst (λ n. (a / g) ∣ n) (div-mul_cancel g d) (dvd-mul_right (a / g) g)

-- a positive number divided by one of its divisors is positive
pub part_pos : (a g : ℕ) → 0 < a → g ∣ a → 0 < a / g
part_pos a g h d = pos_of_dvd_of_pos (part_of a g d) h

-- n + 1 is positive
pub suc_is_positive : (n : ℕ) → 0 < suc n
suc_is_positive n = omega arith
