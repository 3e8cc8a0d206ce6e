-- The named numbers of a product and of a sum are in lowest terms, and their quotient is the product or the sum.
use Rattle.std.proofs.Common.{◌≡◌, ℕ, ◌*◌, ◌/◌, ◌<◌, ℤ, pos, ◌+ℤ◌, ◌-ℤ◌, ◌*ℤ◌, unsigned_abs, int_div, sym, refl, ap, ◌∙◌, subst}
use Rattle.std.proofs.lemmas.Int.{unsigned_abs-mul}
use Rattle.std.proofs.lemmas.Nat.Gcd.{IsGcd-swap}
use Rattle.std.proofs.Math.Nat.{div-mul_cancel, mul-pos, pos_of_dvd_of_pos, dvd_refl, dvd-mul_left, dvd-mul_left_of_dvd, dvd_trans, one-dvd, div-eq_of_eq-mul_left, mul_assoc}
use lib.IntN.{+ℤ-neg_ℤ_cancel, +ℤ_comm}
use Rattle.std.specs.Int.{IsGcd, ◌∣◌}
use Rattle.ps_meaning.specs.Gcd.{gcd}
use Rattle.ps_meaning.specs.Wide.{product_over, product_under, sum_over, sum_under}
use Rattle.ps_meaning.specs.Rational.{Rational, IsLowestTerms, den, times, add, mul}
use Rattle.ps_meaning.specs.Coprime.{gcd_is, gcd_pos_right, coprime_rest, coprime_parts, coprime_product, coprime_products, gauss}
use Rattle.ps_meaning.specs.Parts.{quot_abs, part_of, part_pos}
use Rattle.ps_meaning.proofs.ExactQuotient.{quot_exact}
use Rattle.ps_meaning.proofs.IntRing.{cross_product, cross_sum, sub-*ℤ}
use Rattle.ps_meaning.proofs.Cross.{quotient_is}

-- ---- products
pub product_abs : (x y : Rational) → unsigned_abs (product_over x y) ≡ (unsigned_abs x.over / gcd (unsigned_abs x.over) y.under) * (unsigned_abs y.over / gcd (unsigned_abs y.over) x.under)
product_abs x y =
    let g = gcd (unsigned_abs x.over) y.under in
    let h = gcd (unsigned_abs y.over) x.under in
    unsigned_abs-mul (int_div x.over (pos g)) (int_div y.over (pos h)) ∙ ap (λ n. n * unsigned_abs (int_div y.over (pos h))) (quot_abs x.over g) ∙ ap (λ n. (unsigned_abs x.over / g) * n) (quot_abs y.over h)

pub product_is_lowest : (x y : Rational) → IsGcd (unsigned_abs (product_over x y)) (product_under x y) 1
product_is_lowest x y =
    let g = gcd (unsigned_abs x.over) y.under in
    let h = gcd (unsigned_abs y.over) x.under in
    let eg = gcd_is (unsigned_abs x.over) y.under in
    let eh = gcd_is (unsigned_abs y.over) x.under in
    let pg = gcd_pos_right (unsigned_abs x.over) y.under y.lowest.positive in
    let ph = gcd_pos_right (unsigned_abs y.over) x.under x.lowest.positive in
    subst (λ n. IsGcd n (product_under x y) 1) (sym (product_abs x y))
    (coprime_products (unsigned_abs x.over / g) (unsigned_abs y.over / h) (x.under / h) (y.under / g)
    (coprime_parts (unsigned_abs x.over) x.under _ _ x.lowest.coprime (part_of _ _ eg.0) (part_of _ _ eh.1))
    (coprime_rest (unsigned_abs x.over) y.under g pg eg)
    (coprime_rest (unsigned_abs y.over) x.under h ph eh)
    (coprime_parts (unsigned_abs y.over) y.under _ _ y.lowest.coprime (part_of _ _ eh.0) (part_of _ _ eg.1)))

pub product_same : (x y : Rational) → product_over x y *ℤ pos (x.under * y.under) ≡ (x.over *ℤ y.over) *ℤ pos (product_under x y)
product_same x y =
    let g = gcd (unsigned_abs x.over) y.under in
    let h = gcd (unsigned_abs y.over) x.under in
    let eg = gcd_is (unsigned_abs x.over) y.under in
    let eh = gcd_is (unsigned_abs y.over) x.under in
    let a = int_div x.over (pos g) in
    let c = int_div y.over (pos h) in
    let xu : x.under / h * h ≡ x.under = div-mul_cancel h eh.1 in
    let yu : y.under / g * g ≡ y.under = div-mul_cancel g eg.1 in
    let e = cross_product a c g h (x.under / h) (y.under / g) in
    ap (λ n. (a *ℤ c) *ℤ pos (n * y.under)) (sym xu)
    ∙ ap (λ n. (a *ℤ c) *ℤ pos ((x.under / h * h) * n)) (sym yu)
    ∙ e
    ∙ ap (λ z. (z *ℤ (c *ℤ pos h)) *ℤ pos (product_under x y)) (quot_exact x.over g eg.0)
    ∙ ap (λ z. (x.over *ℤ z) *ℤ pos (product_under x y)) (quot_exact y.over h eh.0)

pub product_lowest : (x y : Rational) → IsLowestTerms (product_over x y) (product_under x y)
product_lowest x y = record {
  positive = mul-pos (part_pos x.under _ x.lowest.positive (gcd_is (unsigned_abs y.over) x.under).1) (part_pos y.under _ y.lowest.positive (gcd_is (unsigned_abs x.over) y.under).1);
  coprime = product_is_lowest x y;
}

pub is_product : (x y r : Rational) → r.over ≡ product_over x y → r.under ≡ product_under x y → r ≡ mul x y
unfolding mul times
is_product x y r e f =
    quotient_is r (x.over *ℤ y.over) (times (den x) (den y))
    (ap (λ z. z *ℤ pos (x.under * y.under)) e ∙ product_same x y ∙ ap (λ n. (x.over *ℤ y.over) *ℤ pos n) (sym f))

-- ---- sums
-- what divides a sum and one part divides the other
pub dvd_abs_left : (x y : ℤ) (p : ℕ) → p ∣ unsigned_abs (x +ℤ y) → p ∣ unsigned_abs y → p ∣ unsigned_abs x
dvd_abs_left x y p d e =
    let s = int_div (x +ℤ y) (pos p) in
    let r = int_div y (pos p) in
    let f : x ≡ (s -ℤ r) *ℤ pos p = sym (+ℤ-neg_ℤ_cancel x y) ∙ sym (λ i. quot_exact (x +ℤ y) p d i -ℤ quot_exact y p e i) ∙ sub-*ℤ s r p in
    let g : unsigned_abs x ≡ unsigned_abs (s -ℤ r) * p = ap unsigned_abs f ∙ unsigned_abs-mul (s -ℤ r) (pos p) in
    subst (λ n. p ∣ n) (sym g) (dvd-mul_left p (unsigned_abs (s -ℤ r)))

-- n/b and m/d in lowest terms, with b = u * g and d = v * g: n * v + m * u has no factor in common with u
coprime_half : (n m : ℤ) (b u v : ℕ) → IsGcd (unsigned_abs n) b 1 → u ∣ b → IsGcd u v 1 → IsGcd (unsigned_abs (n *ℤ pos v +ℤ m *ℤ pos u)) u 1
coprime_half n m b u v p hu uv = (
  one-dvd (unsigned_abs (n *ℤ pos v +ℤ m *ℤ pos u)),
  one-dvd u,
  λ c dt du.
      let dr : c ∣ unsigned_abs (m *ℤ pos u) = subst (λ k. c ∣ k) (sym (unsigned_abs-mul m (pos u))) (dvd-mul_left_of_dvd c du (unsigned_abs m)) in
      let dl : c ∣ unsigned_abs n * v = subst (λ k. c ∣ k) (unsigned_abs-mul n (pos v)) (dvd_abs_left (n *ℤ pos v) (m *ℤ pos u) c dt dr) in
      let cv : IsGcd c v 1 = coprime_parts u v c v uv du (dvd_refl v) in
      p.2 c (gauss c v (unsigned_abs n) cv dl) (dvd_trans c du hu),
)

quotients : (d g h : ℕ) → 0 < h → g ∣ d → h ∣ g → d / h ≡ (d / g) * (g / h)
quotients d g h hh gd hg =
    div-eq_of_eq-mul_left hh
    (sym (div-mul_cancel g gd) ∙ ap (λ k. (d / g) * k) (sym (div-mul_cancel h hg)) ∙ sym (mul_assoc (d / g) (g / h) h))

pub sum_lowest : (n m t : ℤ) (b d g h : ℕ) → IsGcd (unsigned_abs n) b 1 → IsGcd (unsigned_abs m) d 1 → 0 < g → IsGcd b d g → t ≡ n *ℤ pos (d / g) +ℤ m *ℤ pos (b / g) → IsGcd (unsigned_abs t) g h → IsGcd (unsigned_abs (int_div t (pos h))) ((b / g) * (d / h)) 1
sum_lowest n m t b d g h pn pm hg bd et th =
    let hh : 0 < h = pos_of_dvd_of_pos th.1 hg in
    let u = b / g in
    let v = d / g in
    let uv : IsGcd u v 1 = coprime_rest b d g hg bd in
    let e : d / h ≡ v * (g / h) = quotients d g h hh bd.1 th.1 in
    let tu : IsGcd (unsigned_abs t) u 1 = subst (λ z. IsGcd (unsigned_abs z) u 1) (sym et) (coprime_half n m b u v pn (part_of b g bd.0) uv) in
    let tv : IsGcd (unsigned_abs t) v 1 = subst (λ z. IsGcd (unsigned_abs z) v 1) (+ℤ_comm (m *ℤ pos u) (n *ℤ pos v) ∙ sym et) (coprime_half m n d v u pm (part_of d g bd.1) (IsGcd-swap u v 1 uv)) in
    let part = part_of (unsigned_abs t) h th.0 in
    let q = unsigned_abs t / h in
    rw (quot_abs t h, e)
    (coprime_product q u (v * (g / h)) (coprime_parts (unsigned_abs t) u q u tu part (dvd_refl u))
    (coprime_product q v (g / h) (coprime_parts (unsigned_abs t) v q v tv part (dvd_refl v)) (coprime_rest (unsigned_abs t) g h hh th)))

pub sum_cross : (n m t : ℤ) (b d g h : ℕ) → 0 < g → IsGcd b d g → t ≡ n *ℤ pos (d / g) +ℤ m *ℤ pos (b / g) → IsGcd (unsigned_abs t) g h → int_div t (pos h) *ℤ pos (b * d) ≡ (n *ℤ pos d +ℤ m *ℤ pos b) *ℤ pos ((b / g) * (d / h))
sum_cross n m t b d g h hg bd et th =
    let hh : 0 < h = pos_of_dvd_of_pos th.1 hg in
    let q = int_div t (pos h) in
    let k = g / h in
    let eg : k * h ≡ g = div-mul_cancel h th.1 in
    let eb : (b / g) * (k * h) ≡ b = ap (λ j. (b / g) * j) eg ∙ div-mul_cancel g bd.0 in
    let ed : (d / g) * (k * h) ≡ d = ap (λ j. (d / g) * j) eg ∙ div-mul_cancel g bd.1 in
    let e : n *ℤ pos (d / g) +ℤ m *ℤ pos (b / g) ≡ q *ℤ pos h = sym et ∙ sym (quot_exact t h th.0) in
    let f = cross_sum n m q (b / g) (d / g) k h e in
    sym (λ i. q *ℤ pos (eb i * ed i)) ∙ f ∙ (λ i. (n *ℤ pos (ed i) +ℤ m *ℤ pos (eb i)) *ℤ pos ((b / g) * sym (quotients d g h hh bd.1 th.1) i))

abbrev pub sum_gcd : Rational → Rational → ℕ
sum_gcd x y = gcd (unsigned_abs (sum_over x y)) (gcd x.under y.under)

pub sum_lowest_terms : (x y : Rational) → IsLowestTerms (int_div (sum_over x y) (pos (sum_gcd x y))) (sum_under x y)
sum_lowest_terms x y =
    let g = gcd x.under y.under in
    let bd = gcd_is x.under y.under in
    let hg = gcd_pos_right x.under y.under y.lowest.positive in
    let h = sum_gcd x y in
    let th = gcd_is (unsigned_abs (sum_over x y)) g in
    record {
      positive = mul-pos (part_pos x.under g x.lowest.positive bd.0) (part_pos y.under h y.lowest.positive (dvd_trans h th.1 bd.1));
      coprime = sum_lowest x.over y.over (sum_over x y) x.under y.under g h x.lowest.coprime y.lowest.coprime hg bd refl th;
    }

pub is_sum : (x y r : Rational) → r.over ≡ int_div (sum_over x y) (pos (sum_gcd x y)) → r.under ≡ sum_under x y → r ≡ add x y
unfolding add times
is_sum x y r e f =
    let g = gcd x.under y.under in
    let bd = gcd_is x.under y.under in
    let hg = gcd_pos_right x.under y.under y.lowest.positive in
    let th = gcd_is (unsigned_abs (sum_over x y)) g in
    let k = sum_cross x.over y.over (sum_over x y) x.under y.under g (sum_gcd x y) hg bd refl th in
    quotient_is r (x.over *ℤ pos y.under +ℤ y.over *ℤ pos x.under) (times (den x) (den y))
    (ap (λ z. z *ℤ pos (x.under * y.under)) e ∙ k ∙ ap (λ n. (x.over *ℤ pos y.under +ℤ y.over *ℤ pos x.under) *ℤ pos n) (sym f))
