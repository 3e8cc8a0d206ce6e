-- Quotients by sign and size, and products that fit.
use Rattle.std.proofs.Common.{◌≡◌, ℕ, ◌-◌, ◌*◌, ◌/◌, ◌<◌, ◌≤◌, ◌^◌, ℤ, pos, negsuc, ◌*ℤ◌, ◌<ℤ◌, ◌≤ℤ◌, neg_ℤ, unsigned_abs, int_div, sym, ap, subst, arith}
use Rattle.std.proofs.lemmas.Int.{ints, unsigned_abs-mul}
use Rattle.std.proofs.Math.Nat.{mul-le-mul}

pub divided_up : (n : ℤ) (g s : ℕ) → pos 0 ≤ℤ n → s ≡ unsigned_abs n / g → pos s ≡ int_div n (pos g)
divided_up (pos a) g s h e = ap pos e
divided_up (negsuc a) g s h e = absurd (omega (arith, ints))

pub divided_down : (n : ℤ) (g s : ℕ) → n <ℤ pos 0 → s ≡ unsigned_abs n / g → neg_ℤ (pos s) ≡ int_div n (pos g)
divided_down (pos a) g s h e = absurd (omega (arith, ints))
divided_down (negsuc a) g s h e = ap (λ k. neg_ℤ (pos k)) e

pub small_product : (a b : ℕ) → a < 2 ^ 63 → b < 2 ^ 63 → a * b < 2 ^ 126
small_product a b h k =
    let ha : a ≤ 2 ^ 63 - 1 = omega arith in
    let hb : b ≤ 2 ^ 63 - 1 = omega arith in
    let e : a * b ≤ (2 ^ 63 - 1) * (2 ^ 63 - 1) = mul-le-mul ha hb in
    omega (arith, e)

pub small_signed_product : (a b : ℤ) → unsigned_abs a < 2 ^ 63 → unsigned_abs b < 2 ^ 63 → unsigned_abs (a *ℤ b) < 2 ^ 126
small_signed_product a b h k = subst (λ n. n < 2 ^ 126) (sym (unsigned_abs-mul a b)) (small_product (unsigned_abs a) (unsigned_abs b) h k)
