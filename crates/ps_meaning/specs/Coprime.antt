-- Greatest common divisors, coprime numbers and Gauss's lemma.
use Rattle.std.proofs.Common.{◌≡◌, ℕ, zero, suc, ◌+◌, ◌*◌, ◌/◌, ◌%◌, ◌<◌, ◌≤◌, sym, refl, ap, ◌∙◌, subst, arith}
use Rattle.std.proofs.Math.Nat.{dvd-mod_iff, mod-lt, dvd-mul_left, dvd_trans, dvd_refl}
use Rattle.std.proofs.Math.Nat.{dvd-zero, div-mul_cancel, dvd_of_mul-dvd-mul_right, mul-dvd-mul_right, pos_of_dvd_of_pos}
use Rattle.std.proofs.Math.Nat.{one-dvd, one-mul, mul-one, mul-zero, div-add-mod}
use Rattle.std.proofs.Math.Nat.{add-mul-mod_self_left, mod-eq_of_lt, mul-lt-mul_of_pos_left}
use Rattle.std.proofs.lemmas.Nat.Gcd.{IsGcd-from_zero, IsGcd-swap, IsGcd-from_mod, same_from_IsGcd, le_of_dvd}
use Rattle.std.specs.Int.{IsGcd, ◌∣◌}
use Rattle.ps_meaning.specs.Gcd.{gcd, gcd_within}

-- one step by a remainder, backwards
IsGcd-to_mod : (a b g : ℕ) → IsGcd a b g → IsGcd b (a % b) g
IsGcd-to_mod a b g h = (h.1, (dvd-mod_iff g h.1).1 h.0, λ d p q. h.2 d ((dvd-mod_iff d p).0 q) p)

gcd_within_is : (k a b : ℕ) → b < k → IsGcd a b (gcd_within k a b)
unfolding gcd_within
gcd_within_is zero a b h = absurd (omega arith)
gcd_within_is (suc k) a zero h = IsGcd-from_zero a zero refl
gcd_within_is (suc k) a (suc b) h =
    IsGcd-from_mod a (suc b) _ (gcd_within_is k (suc b) (a % suc b) (omega arith))

-- the gcd of two numbers is a greatest common divisor of them
pub gcd_is : (a b : ℕ) → IsGcd a b (gcd a b)
unfolding gcd
gcd_is a b = gcd_within_is (suc b) a b (omega arith)

-- a greatest common divisor of two numbers is their gcd
pub is_gcd : (a b g : ℕ) → IsGcd a b g → g ≡ gcd a b
is_gcd a b g h = same_from_IsGcd a b g (gcd a b) h (gcd_is a b)

-- the gcd is positive where the second number is
pub gcd_pos_right : (a b : ℕ) → 0 < b → 0 < gcd a b
gcd_pos_right a b h = pos_of_dvd_of_pos (gcd_is a b).1 h

-- a remainder of multiples
mod-scale : (c a b : ℕ) → 0 < c → 0 < b → (c * a) % (c * b) ≡ c * (a % b)
mod-scale c a b hc hb =
    let e : c * a ≡ c * (a % b) + c * b * (a / b) = omega (arith, ap (λ n. c * n) (div-add-mod a b)) in
    let l : c * (a % b) < c * b = mul-lt-mul_of_pos_left (mod-lt a hb) hc in
    rw e (add-mul-mod_self_left (c * (a % b)) (c * b) (a / b) ∙ mod-eq_of_lt l)

module _ (c : ℕ) (hc : 0 < c) where
  scale_within : (k a b g : ℕ) → b < k → IsGcd a b g → IsGcd (c * a) (c * b) (c * g)
  scale_within zero a b g h p = absurd (omega arith)
  scale_within (suc k) a zero g h p =
      let e : a ≡ g = same_from_IsGcd a zero a g (IsGcd-from_zero a zero refl) p in
      subst (λ n. IsGcd (c * a) (c * zero) (c * n)) e (IsGcd-from_zero (c * a) (c * zero) (mul-zero c))
  scale_within (suc k) a (suc b) g h p =
      let rest : IsGcd (c * suc b) (c * (a % suc b)) (c * g) =
      scale_within k (suc b) (a % suc b) g (omega arith) (IsGcd-to_mod a (suc b) g p) in
      IsGcd-from_mod (c * a) (c * suc b) (c * g)
      (subst (λ n. IsGcd (c * suc b) n (c * g)) (sym (mod-scale c a (suc b) hc (omega arith))) rest)

-- two numbers times a positive one have the greatest common divisor of the two, times that one
pub IsGcd-scale : (c a b g : ℕ) → 0 < c → IsGcd a b g → IsGcd (c * a) (c * b) (c * g)
IsGcd-scale c a b g hc p = scale_within c hc (suc b) a b g (omega arith) p

-- Gauss's lemma
pub gauss : (a b c : ℕ) → IsGcd a b 1 → a ∣ c * b → a ∣ c
gauss a b zero p d = dvd-zero a
gauss a b (suc c) p d =
    subst (λ n. a ∣ n) (mul-one (suc c)) ((IsGcd-scale (suc c) a b 1 (omega arith) p).2 a (dvd-mul_left a (suc c)) d)

module _ (a b x y : ℕ) where
  -- divisors of coprime numbers are coprime
  pub coprime_parts : IsGcd a b 1 → x ∣ a → y ∣ b → IsGcd x y 1
  coprime_parts p hx hy = (one-dvd x, one-dvd y, λ d dx dy. p.2 d (dvd_trans d dx hx) (dvd_trans d dy hy))

-- a number coprime to each factor is coprime to the product
pub coprime_product : (a b c : ℕ) → IsGcd a b 1 → IsGcd a c 1 → IsGcd a (b * c) 1
coprime_product a zero c p q =
    (one-dvd a, one-dvd (zero * c), λ d da dbc. dvd_trans d da (p.2 a (dvd_refl a) (dvd-zero a)))
coprime_product a (suc b) c p q = (
  one-dvd a,
  one-dvd (suc b * c),
  λ d da dbc.
      let dc : IsGcd d c 1 = coprime_parts a c d c q da (dvd_refl c) in
      p.2 d da (gauss d c (suc b) dc dbc),
)

module _ (a b c d : ℕ) where
  -- two products are coprime where each factor of the one is coprime to each of the other
  pub coprime_products : IsGcd a c 1 → IsGcd a d 1 → IsGcd b c 1 → IsGcd b d 1 → IsGcd (a * b) (c * d) 1
  coprime_products ac ad bc bd =
      IsGcd-swap (c * d) (a * b) 1
      (coprime_product (c * d) a b (IsGcd-swap a (c * d) 1 (coprime_product a c d ac ad))
      (IsGcd-swap b (c * d) 1 (coprime_product b c d bc bd)))

-- what is left after division by the greatest common divisor is coprime
pub coprime_rest : (a b g : ℕ) → 0 < g → IsGcd a b g → IsGcd (a / g) (b / g) 1
coprime_rest a b g hg p = (
  one-dvd (a / g),
  one-dvd (b / g),
  λ d da db.
      let ea : d * g ∣ a = subst (λ n. d * g ∣ n) (div-mul_cancel g p.0) (mul-dvd-mul_right d da g) in
      let eb : d * g ∣ b = subst (λ n. d * g ∣ n) (div-mul_cancel g p.1) (mul-dvd-mul_right d db g) in
      let dg : d * g ∣ 1 * g = subst (λ n. d * g ∣ n) (sym (one-mul g)) (p.2 (d * g) ea eb) in
      dvd_of_mul-dvd-mul_right d hg dg,
)

-- the gcd is at most the second number, where that is positive
pub gcd_le_right : (a b : ℕ) → 0 < b → gcd a b ≤ b
gcd_le_right a b h = le_of_dvd h (gcd_is a b).1
