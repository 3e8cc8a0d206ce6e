-- Greatest common divisors by differences and halving.
use Rattle.std.proofs.Common.{◌≡◌, ℕ, zero, suc, ◌+◌, ◌-◌, ◌*◌, ◌/◌, ◌%◌, ◌^◌, ◌<◌, ◌≤◌, sym, ap, ◌∙◌, subst, arith}
use Rattle.std.specs.Int.{IsGcd, ◌∣◌, bit_at}
use Rattle.std.proofs.Math.Nat.{pow-suc, dvd-mod_iff, dvd-mul_right_of_dvd, dvd_refl, one-dvd, mul_comm}
use Rattle.std.proofs.lemmas.Nat.{shr-shr, pow-add, pow_pos}
use Rattle.std.proofs.lemmas.Nat.Bits.{bit_at_lowest, bit_at-suc}
use Rattle.std.proofs.lemmas.Nat.Gcd.{IsGcd-swap, IsGcd-from_sub}
use Rattle.ps_meaning.specs.Coprime.{coprime_product, coprime_parts, gauss, IsGcd-scale}

-- below the lowest bit that is set there is nothing to lose
pub exact_shift : (t n : ℕ) → ((i : ℕ) → i < t → bit_at n i ≡ 0) → n / 2 ^ t * 2 ^ t ≡ n
exact_shift zero n h = omega arith
exact_shift (suc t) n h =
    let even : n % 2 ≡ 0 = sym (bit_at_lowest n) ∙ h 0 (omega arith) in
    let half : n / 2 / 2 ^ t * 2 ^ t ≡ n / 2 = exact_shift t (n / 2) (λ i l. sym (bit_at-suc n i) ∙ h (suc i) (omega arith)) in
    let next : 1 + t ≡ suc t = omega arith in
    let whole : n / 2 / 2 ^ t ≡ n / 2 ^ suc t = shr-shr n 1 t ∙ ap (λ k. n / 2 ^ k) next in
    let q = n / 2 ^ suc t in
    let r : q * 2 ^ t ≡ n / 2 = ap (λ k. k * 2 ^ t) (sym whole) ∙ half in
    omega (arith, ap (λ k. q * k) (pow-suc 2 t), r, even)

divides_two : (d u : ℕ) → u % 2 ≡ 1 → d ∣ 2 → d ∣ u → d ∣ 1
divides_two d u h p q = subst (λ n. d ∣ n) h ((dvd-mod_iff d p).1 q)

coprime_two : (u : ℕ) → u % 2 ≡ 1 → IsGcd u 2 1
coprime_two u h = (one-dvd u, one-dvd 2, λ d p q. divides_two d u h q p)

pub coprime_pow : (u k : ℕ) → u % 2 ≡ 1 → IsGcd u (2 ^ k) 1
coprime_pow u zero h = (one-dvd u, dvd_refl 1, λ d p q. q)
coprime_pow u (suc k) h = subst (λ n. IsGcd u n 1) (sym (pow-suc 2 k)) (coprime_product u (2 ^ k) 2 (coprime_pow u k h) (coprime_two u h))

-- factors of two of one number don't matter where the other is odd
pub strip : (m u k g : ℕ) → u % 2 ≡ 1 → IsGcd m u g → IsGcd (m * 2 ^ k) u g
strip m u k g h p = (
  dvd-mul_right_of_dvd g p.0 (2 ^ k),
  p.1,
  λ d dm du. p.2 d (gauss d (2 ^ k) m (coprime_parts u (2 ^ k) d (2 ^ k) (coprime_pow u k h) du (dvd_refl (2 ^ k))) dm) du,
)

same_gcd : (a b g c d h : ℕ) → a ≡ c → b ≡ d → g ≡ h → IsGcd a b g → IsGcd c d h
same_gcd a b g c d h ea eb eg p = subst (λ n. IsGcd c d n) eg (subst (λ n. IsGcd c n g) eb (subst (λ n. IsGcd n b g) ea p))

-- two different odd numbers, with the lesser one and the odd part of the difference in their place
pub step_less : (x y u t g : ℕ) → x % 2 ≡ 1 → x < y → u * 2 ^ t ≡ y - x → IsGcd u x g → IsGcd x y g
step_less x y u t g h l e p = IsGcd-swap y x g (IsGcd-from_sub y x g (omega arith) (subst (λ n. IsGcd n x g) e (strip u x t g h p)))

pub step_more : (x y u t g : ℕ) → y % 2 ≡ 1 → y < x → u * 2 ^ t ≡ x - y → IsGcd u y g → IsGcd x y g
step_more x y u t g h l e p = IsGcd-from_sub x y g (omega arith) (subst (λ n. IsGcd n y g) e (strip u y t g h p))

scaled_left : (i j u v : ℕ) → i ≤ j → 2 ^ i * (v * 2 ^ (j - i)) ≡ v * 2 ^ j
scaled_left i j u v l =
    let e : i + (j - i) ≡ j = omega arith in
    omega (arith, ap (λ n. v * n) (sym (pow-add 2 i (j - i)) ∙ ap (λ n. 2 ^ n) e))

-- the lesser power of two is common to both
pub twos_left : (a b u v i j g : ℕ) → u % 2 ≡ 1 → i ≤ j → u * 2 ^ i ≡ a → v * 2 ^ j ≡ b → IsGcd u v g → IsGcd a b (g * 2 ^ i)
twos_left a b u v i j g h l ea eb p =
    let odd : IsGcd u (v * 2 ^ (j - i)) g = IsGcd-swap _ u g (strip v u (j - i) g h (IsGcd-swap u v g p)) in
    same_gcd _ _ _ a b (g * 2 ^ i) (omega (arith, ea)) (scaled_left i j u v l ∙ eb) (mul_comm (2 ^ i) g) (IsGcd-scale (2 ^ i) u (v * 2 ^ (j - i)) g (pow_pos i) odd)

pub twos_right : (a b u v i j g : ℕ) → v % 2 ≡ 1 → j ≤ i → u * 2 ^ i ≡ a → v * 2 ^ j ≡ b → IsGcd u v g → IsGcd a b (g * 2 ^ j)
twos_right a b u v i j g h l ea eb p = IsGcd-swap b a _ (twos_left b a v u j i g h l eb ea (IsGcd-swap u v g p))
