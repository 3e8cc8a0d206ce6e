-- Exact quotients of integers.
use Rattle.std.proofs.Common.{◌≡◌, ℕ, suc, ◌/◌, ℤ, pos, negsuc, ◌*ℤ◌, neg_ℤ, unsigned_abs, int_div, ap, ◌∙◌}
use Rattle.std.proofs.Math.Nat.{div-mul_cancel}
use Rattle.std.specs.Int.{◌∣◌}
use Rattle.ps_meaning.proofs.IntRing.{neg-*ℤ}

pub quot_exact : (z : ℤ) (g : ℕ) → g ∣ unsigned_abs z → int_div z (pos g) *ℤ pos g ≡ z
quot_exact (pos a) g d = ap pos (div-mul_cancel g d)
quot_exact (negsuc a) g d = neg-*ℤ (pos (suc a / g)) (pos g) ∙ ap (λ n. neg_ℤ (pos n)) (div-mul_cancel g d)
