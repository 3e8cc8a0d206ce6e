-- The code's own numbers are those of the definitions, each tied to the next by an equation.
use Rattle.std.proofs.Common.{◌≡◌, ◌≢◌, ℕ, zero, suc, ◌*◌, ◌/◌, ◌<◌, ℤ, pos, negsuc, ◌*ℤ◌, ◌<ℤ◌, ◌≤ℤ◌, neg_ℤ, unsigned_abs, int_div, sym, refl, ap, ◌∙◌, subst, arith}
use Rattle.std.proofs.lemmas.Int.{ints}
use Rattle.std.proofs.lemmas.Nat.Gcd.{IsGcd-swap}
use Rattle.std.proofs.Math.Nat.{div-mul_cancel, pos_of_dvd_of_pos}
use Rattle.std.specs.Int.{IsGcd}
use Rattle.ps_meaning.specs.Gcd.{gcd, lcm, IsLeastCommonMultiple}
use Rattle.ps_meaning.specs.Wide.{sum_over, sum_under}
use Rattle.ps_meaning.specs.Rational.{Rational, IsLowestTerms, Positive, suc_positive, at_least_one, den, fraction, zero_q, neg, inverse, inverse_of}
use Rattle.ps_meaning.specs.Coprime.{gcd_is, coprime_rest}
use Rattle.ps_meaning.specs.Parts.{quot_abs, part_pos}
use Rattle.ps_meaning.proofs.ExactQuotient.{quot_exact}
use Rattle.ps_meaning.proofs.IntRing.{cross_reduced}
use Rattle.ps_meaning.proofs.Cross.{quotient_is}
use Rattle.ps_meaning.proofs.Multiples.{lcm_is}
use Rattle.ps_meaning.proofs.Field.{over_is_zero}
use Rattle.ps_meaning.proofs.NamedNumbers.{sum_gcd}

pub lowest_by_abs : (z y : ℤ) (d : ℕ) → IsLowestTerms z d → unsigned_abs y ≡ unsigned_abs z → IsLowestTerms y d
lowest_by_abs z y d h e = record { positive = h.positive; coprime = subst (λ n. IsGcd n d 1) (sym e) h.coprime }

pub is_neg : (x r : Rational) → r.over ≡ neg_ℤ x.over → r.under ≡ x.under → r ≡ neg x
unfolding neg
is_neg x r e f = quotient_is r (neg_ℤ x.over) (den x) (λ i. e i *ℤ pos (sym f i))

-- ---- sums
pub sum_over_at : (x y : Rational) (t u r s : ℤ) (a g h : ℕ) → g ≡ gcd x.under y.under → t ≡ sum_over x y → u ≡ t → a ≡ unsigned_abs u → h ≡ gcd a g → r ≡ int_div u (pos h) → s ≡ r → s ≡ int_div (sum_over x y) (pos (sum_gcd x y))
sum_over_at x y t u r s a g h eg et eu ea eh er es =
    let fu : u ≡ sum_over x y = eu ∙ et in
    let fh : h ≡ sum_gcd x y = eh ∙ (λ i. gcd ((ea ∙ ap unsigned_abs fu) i) (eg i)) in
    es ∙ er ∙ (λ i. int_div (fu i) (pos (fh i)))

pub sum_under_at : (x y : Rational) (t u : ℤ) (a g h : ℕ) → g ≡ gcd x.under y.under → t ≡ sum_over x y → u ≡ t → a ≡ unsigned_abs u → h ≡ gcd a g → (x.under / g) * (y.under / h) ≡ sum_under x y
sum_under_at x y t u a g h eg et eu ea eh =
    let fh : h ≡ sum_gcd x y = eh ∙ (λ i. gcd ((ea ∙ ap unsigned_abs (eu ∙ et)) i) (eg i)) in
    λ i. (x.under / eg i) * (y.under / fh i)

pub lowest_at : (z w : ℤ) (d e : ℕ) → IsLowestTerms z d → w ≡ z → e ≡ d → IsLowestTerms w e
lowest_at z w d e h f g = rw (f, g) h

-- ---- reducing
pub reduced_lowest : (n m r s : ℤ) (b u g : ℕ) → 0 < b → m ≡ n → u ≡ unsigned_abs m → g ≡ gcd u b → r ≡ int_div m (pos g) → s ≡ r → IsLowestTerms s (b / g)
reduced_lowest n m r s b u g hb em eu eg er es =
    let e : g ≡ gcd (unsigned_abs n) b = eg ∙ ap (λ k. gcd k b) (eu ∙ ap unsigned_abs em) in
    let f : s ≡ int_div n (pos g) = es ∙ er ∙ ap (λ z. int_div z (pos g)) em in
    let i : IsGcd (unsigned_abs n) b g = subst (λ k. IsGcd (unsigned_abs n) b k) (sym e) (gcd_is (unsigned_abs n) b) in
    let gp : 0 < g = pos_of_dvd_of_pos i.1 hb in
    rw f (record { positive = part_pos b g hb i.1; coprime = subst (λ k. IsGcd k (b / g) 1) (sym (quot_abs n g)) (coprime_rest (unsigned_abs n) b g gp i) })

at_least_one-value : (b : ℕ) → 0 < b → (at_least_one b).value ≡ b
at_least_one-value zero h = absurd (omega arith)
at_least_one-value (suc b) h = refl

pub is_fraction : (x : Rational) (n m r s : ℤ) (b u g : ℕ) → 0 < b → m ≡ n → u ≡ unsigned_abs m → g ≡ gcd u b → r ≡ int_div m (pos g) → s ≡ r → x.over ≡ s → x.under ≡ b / g → x ≡ fraction n b
is_fraction x n m r s b u g hb em eu eg er es ex ux =
    let e : g ≡ gcd (unsigned_abs n) b = eg ∙ ap (λ k. gcd k b) (eu ∙ ap unsigned_abs em) in
    let i : IsGcd (unsigned_abs n) b g = subst (λ k. IsGcd (unsigned_abs n) b k) (sym e) (gcd_is (unsigned_abs n) b) in
    let q = int_div n (pos g) in
    let f : x.over ≡ q = ex ∙ es ∙ er ∙ ap (λ z. int_div z (pos g)) em in
    quotient_is x n (at_least_one b)
    ((λ j. f j *ℤ pos (at_least_one-value b hb j)) ∙ ap (λ k. q *ℤ pos k) (sym (div-mul_cancel g i.1)) ∙ cross_reduced q g (b / g) ∙ ap (λ z. z *ℤ pos (b / g)) (quot_exact n g i.0) ∙ ap (λ k. n *ℤ pos k) (sym ux))

-- ---- turning over
inverse_up : (z : ℤ) (d : Positive) (r : Rational) → z ≢ pos 0 → pos 0 ≤ℤ z → r.over ≡ pos d.value → r.under ≡ unsigned_abs z → r ≡ inverse_of z d
unfolding inverse_of
inverse_up (pos zero) d r n h e f = absurd (n refl)
inverse_up (pos (suc k)) d r n h e f = quotient_is r (pos d.value) (suc_positive k) (λ i. e i *ℤ pos (sym f i))
inverse_up (negsuc k) d r n h e f = absurd h.le

inverse_down : (z : ℤ) (d : Positive) (r : Rational) → z <ℤ pos 0 → r.over ≡ neg_ℤ (pos d.value) → r.under ≡ unsigned_abs z → r ≡ inverse_of z d
unfolding inverse_of
inverse_down (negsuc k) d r h e f = quotient_is r (neg_ℤ (pos d.value)) (suc_positive k) (λ i. e i *ℤ pos (sym f i))
inverse_down (pos k) d r h e f = absurd (omega (arith, ints))

pub is_inverse_up : (x r : Rational) → x ≢ zero_q → pos 0 ≤ℤ x.over → r.over ≡ pos x.under → r.under ≡ unsigned_abs x.over → r ≡ inverse x
unfolding inverse
is_inverse_up x r n h e f = inverse_up x.over (den x) r (λ k. n (over_is_zero x k)) h e f

pub is_inverse_down : (x r : Rational) → x.over <ℤ pos 0 → r.over ≡ neg_ℤ (pos x.under) → r.under ≡ unsigned_abs x.over → r ≡ inverse x
unfolding inverse
is_inverse_down x r h e f = inverse_down x.over (den x) r h e f

pub turned_lowest : (x : Rational) (y : ℤ) (u : ℕ) → x ≢ zero_q → unsigned_abs y ≡ x.under → u ≡ unsigned_abs x.over → IsLowestTerms y u
turned_lowest x y u n e f =
    let z : ¬ (x.over ≡ pos 0) = λ k. n (over_is_zero x k) in
    record {
      positive = omega (arith, ints);
      coprime = rw (e, f) (IsGcd-swap (unsigned_abs x.over) x.under 1 x.lowest.coprime);
    }

-- ---- the least common multiple
pub lcm_at : (a b u v g m n : ℕ) → 0 < b → u ≡ a → v ≡ b → g ≡ gcd u v → m ≡ (u / g) * v → n ≡ m → IsLeastCommonMultiple a b n
lcm_at a b u v g m n h eu ev eg em en =
    let e : n ≡ lcm a b = en ∙ em ∙ (λ i. (eu i / (eg ∙ (λ j. gcd (eu j) (ev j))) i) * ev i) in
    subst (λ k. IsLeastCommonMultiple a b k) (sym e) (lcm_is a b h)
