-- Laws of products of whole numbers.
use Rattle.std.proofs.Common.{◌≡◌, zero, suc, ℤ, pos, negsuc, ◌+ℤ◌, ◌*ℤ◌, ◌-ℤ◌, ◌≤ℤ◌, arith, refl}
use Rattle.std.proofs.lemmas.Int.{ints}
use Rattle.std.proofs.Math.IntN.{suc_ℤ-*ℤ, pred_ℤ-*ℤ, zero-*ℤ, *ℤ_comm, pos-*ℤ-pos}

pub mul_add : (a b c : ℤ) → a *ℤ (b +ℤ c) ≡ (a *ℤ b) +ℤ (a *ℤ c)
mul_add (pos zero) b c = omega (arith, ints, zero-*ℤ (b +ℤ c), zero-*ℤ b, zero-*ℤ c)
mul_add (pos (suc n)) b c = omega (arith, ints, suc_ℤ-*ℤ (pos n) (b +ℤ c), suc_ℤ-*ℤ (pos n) b, suc_ℤ-*ℤ (pos n) c, mul_add (pos n) b c)
mul_add (negsuc zero) b c = omega (arith, ints, pred_ℤ-*ℤ (pos zero) (b +ℤ c), pred_ℤ-*ℤ (pos zero) b, pred_ℤ-*ℤ (pos zero) c, zero-*ℤ (b +ℤ c), zero-*ℤ b, zero-*ℤ c)
mul_add (negsuc (suc n)) b c = omega (arith, ints, pred_ℤ-*ℤ (negsuc n) (b +ℤ c), pred_ℤ-*ℤ (negsuc n) b, pred_ℤ-*ℤ (negsuc n) c, mul_add (negsuc n) b c)

pub mul_sub : (a b c : ℤ) → a *ℤ (b -ℤ c) ≡ (a *ℤ b) -ℤ (a *ℤ c)
mul_sub a b c = let e : (b -ℤ c) +ℤ c ≡ b = omega (arith, ints) in let h = rw e at (mul_add a (b -ℤ c) c) in omega (arith, ints, h)

pub add_mul : (a b c : ℤ) → (a +ℤ b) *ℤ c ≡ (a *ℤ c) +ℤ (b *ℤ c)
add_mul a b c = rw (*ℤ_comm (a +ℤ b) c, *ℤ_comm a c, *ℤ_comm b c) (mul_add c a b)

pub sub_mul : (a b c : ℤ) → (a -ℤ b) *ℤ c ≡ (a *ℤ c) -ℤ (b *ℤ c)
sub_mul a b c = rw (*ℤ_comm (a -ℤ b) c, *ℤ_comm a c, *ℤ_comm b c) (mul_sub c a b)

zero_assoc : (b c : ℤ) → (pos zero *ℤ b) *ℤ c ≡ pos zero
zero_assoc b c = rw (zero-*ℤ b, zero-*ℤ c) refl

pub mul_assoc : (a b c : ℤ) → (a *ℤ b) *ℤ c ≡ a *ℤ (b *ℤ c)
mul_assoc (pos zero) b c = rw (zero-*ℤ b, zero-*ℤ c, zero-*ℤ (b *ℤ c)) refl
mul_assoc (pos (suc n)) b c = rw (suc_ℤ-*ℤ (pos n) b) (omega (arith, ints, add_mul (pos n *ℤ b) b c, suc_ℤ-*ℤ (pos n) (b *ℤ c), mul_assoc (pos n) b c))
mul_assoc (negsuc zero) b c = rw (pred_ℤ-*ℤ (pos zero) b) (omega (arith, ints, zero-*ℤ b, zero-*ℤ (b *ℤ c), zero-*ℤ c, pred_ℤ-*ℤ (pos zero) (b *ℤ c), sub_mul (pos zero *ℤ b) b c, zero_assoc b c))
mul_assoc (negsuc (suc n)) b c = rw (pred_ℤ-*ℤ (negsuc n) b) (omega (arith, ints, sub_mul (negsuc n *ℤ b) b c, pred_ℤ-*ℤ (negsuc n) (b *ℤ c), mul_assoc (negsuc n) b c))

-- the first two factors change places
pub swap_mul : (a b c : ℤ) → a *ℤ (b *ℤ c) ≡ b *ℤ (a *ℤ c)
swap_mul a b c = rw (← mul_assoc a b c, *ℤ_comm a b, mul_assoc b a c) refl

pub mul-zero : (a : ℤ) → a *ℤ pos 0 ≡ pos 0
mul-zero a = rw (*ℤ_comm a (pos 0), zero-*ℤ a) refl

pub mul-one : (a : ℤ) → a *ℤ pos 1 ≡ a
mul-one a = rw (*ℤ_comm a (pos 1)) (omega (arith, ints, suc_ℤ-*ℤ (pos 0) a, zero-*ℤ a))

pub mul-nonneg : (a b : ℤ) → pos 0 ≤ℤ a → pos 0 ≤ℤ b → pos 0 ≤ℤ (a *ℤ b)
mul-nonneg (pos a) (pos b) p q = rw (pos-*ℤ-pos a b) (omega (arith, ints))
mul-nonneg (pos a) (negsuc b) p q = absurd (omega (arith, ints))
mul-nonneg (negsuc a) b p q = absurd (omega (arith, ints))

pub mul-nonpos : (a b : ℤ) → pos 0 ≤ℤ a → b ≤ℤ pos 0 → (a *ℤ b) ≤ℤ pos 0
mul-nonpos a b p q = let h : pos 0 ≤ℤ (a *ℤ (pos 0 -ℤ b)) = mul-nonneg a (pos 0 -ℤ b) p (omega (arith, ints)) in omega (arith, ints, mul_sub a (pos 0) b, mul-zero a)
