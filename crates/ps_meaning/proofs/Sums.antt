-- The laws of sums of rational numbers.
use Rattle.std.proofs.Common.{◌≡◌, ◌≢◌, ℕ, zero, suc, ◌+◌, ◌<◌, [], ◌∷◌, sym, refl, ap, ◌∙◌, arith, inl, inr}
use Rattle.std.proofs.lemmas.Bool.{cases_eq}
use Rattle.ps_meaning.specs.Rational.{Rational, add, mul, neg, sub, zero_q, one_q}
use Rattle.ps_meaning.specs.Order.{IsNonneg}
use Rattle.ps_meaning.specs.Sums.{sum_to}
use Rattle.ps_meaning.proofs.Ring.{var, plus, by, minus, none, unit}
use Rattle.ps_meaning.proofs.Field.{ring_q}
use Rattle.ps_meaning.proofs.Order.{nonneg-add, zero_nonneg, parts_zero}

pub sum_same : (n : ℕ) (f g : ℕ → Rational) → ((i : ℕ) → i < n → f i ≡ g i) → sum_to n f ≡ sum_to n g
sum_same zero f g h = refl
sum_same (suc n) f g h = λ i. add (sum_same n f g (λ k l. h k (omega arith)) i) (h n (omega arith) i)

pub sum_scale : (n : ℕ) (c : Rational) (f : ℕ → Rational) → mul c (sum_to n f) ≡ sum_to n (λ i. mul c (f i))
sum_scale zero c f = ring_q (c ∷ []) (by (var 0) none) none refl
sum_scale (suc n) c f =
    ring_q (c ∷ (sum_to n f ∷ (f n ∷ []))) (by (var 0) (plus (var 1) (var 2))) (plus (by (var 0) (var 1)) (by (var 0) (var 2))) refl
    ∙ ap (λ k. add k (mul c (f n))) (sum_scale n c f)

pub sum-add : (n : ℕ) (f g : ℕ → Rational) → sum_to n (λ i. add (f i) (g i)) ≡ add (sum_to n f) (sum_to n g)
sum-add zero f g = ring_q [] none (plus none none) refl
sum-add (suc n) f g =
    ap (λ k. add k (add (f n) (g n))) (sum-add n f g)
    ∙ ring_q (sum_to n f ∷ (sum_to n g ∷ (f n ∷ (g n ∷ [])))) (plus (plus (var 0) (var 1)) (plus (var 2) (var 3))) (plus (plus (var 0) (var 2)) (plus (var 1) (var 3))) refl

pub sum_of_zeros : (n : ℕ) → sum_to n (λ _. zero_q) ≡ zero_q
sum_of_zeros zero = refl
sum_of_zeros (suc n) = ap (λ k. add k zero_q) (sum_of_zeros n) ∙ ring_q [] (plus none none) none refl

pub sum_swap : (n m : ℕ) (f : ℕ → ℕ → Rational) → sum_to n (λ i. sum_to m (λ k. f i k)) ≡ sum_to m (λ k. sum_to n (λ i. f i k))
sum_swap zero m f = sym (sum_of_zeros m)
sum_swap (suc n) m f =
    ap (λ k. add k (sum_to m (λ j. f n j))) (sum_swap n m f)
    ∙ sym (sum-add m (λ k. sum_to n (λ i. f i k)) (λ k. f n k))

-- the first terms, and then the rest
pub sum_split : (a b : ℕ) (h : ℕ → Rational) → sum_to (suc (a + b)) h ≡ add (sum_to (suc a) h) (sum_to b (λ k. h (suc (a + k))))
sum_split a zero h =
    let e : a + zero ≡ a = omega arith in
    ap (λ n. sum_to (suc n) h) e ∙ ring_q (sum_to (suc a) h ∷ []) (var 0) (plus (var 0) none) refl
sum_split a (suc b) h =
    let e : a + suc b ≡ suc (a + b) = omega arith in
    ap (λ n. sum_to (suc n) h) e
    ∙ ap (λ k. add k (h (suc (a + b)))) (sum_split a b h)
    ∙ ring_q (sum_to (suc a) h ∷ (sum_to b (λ k. h (suc (a + k))) ∷ (h (suc (a + b)) ∷ []))) (plus (plus (var 0) (var 1)) (var 2)) (plus (var 0) (plus (var 1) (var 2))) refl

-- a sum with one term that counts
pub sum_one : (n p : ℕ) (f : ℕ → Rational) → p < n → ((i : ℕ) → i ≢ p → f i ≡ zero_q) → sum_to n f ≡ f p
sum_one zero p f h k = absurd (omega arith)
sum_one (suc n) p f h k =
    elim (cases_eq n p) [
      | inl e ↦ (λ i. add ((sum_same n f (λ _. zero_q) (λ j l. k j (omega arith)) ∙ sum_of_zeros n) i) (ap f e i)) ∙ ring_q (f p ∷ []) (plus none (var 0)) (var 0) refl
      | inr ne ↦ (λ i. add (sum_one n p f (omega arith) k i) (k n ne i)) ∙ ring_q (f p ∷ []) (plus (var 0) none) (var 0) refl
    ]

-- a sum over units has one term
pub unit_sum : (n i : ℕ) (y x : ℕ → Rational) → i < n → x i ≡ one_q → ((k : ℕ) → k < n → k ≢ i → x k ≡ zero_q) → sum_to n (λ k. mul (y k) (x k)) ≡ y i
unit_sum zero i y x h one others = absurd (omega arith)
unit_sum (suc n) i y x h one others =
    elim (cases_eq n i) [
      | inl e ↦ (λ j. add ((sum_same n (λ k. mul (y k) (x k)) (λ _. zero_q) (λ k l. ap (mul (y k)) (others k (omega arith) (omega arith)) ∙ ring_q (y k ∷ []) (by (var 0) none) none refl) ∙ sum_of_zeros n) j) (mul (y (e j)) ((ap x e ∙ one) j))) ∙ ring_q (y i ∷ []) (plus none (by (var 0) unit)) (var 0) refl
      | inr ne ↦ (λ j. add (unit_sum n i y x (omega arith) one (λ k l. others k (omega arith)) j) (mul (y n) (others n (omega arith) ne j))) ∙ ring_q (y i ∷ (y n ∷ [])) (plus (var 0) (by (var 1) none)) (var 0) refl
    ]

pub sum-sub : (n : ℕ) (f g : ℕ → Rational) → sum_to n (λ i. sub (f i) (g i)) ≡ sub (sum_to n f) (sum_to n g)
sum-sub zero f g = ring_q [] none (plus none (minus none)) refl
sum-sub (suc n) f g =
    ap (λ k. add k (sub (f n) (g n))) (sum-sub n f g)
    ∙ ring_q (sum_to n f ∷ (sum_to n g ∷ (f n ∷ (g n ∷ [])))) (plus (plus (var 0) (minus (var 1))) (plus (var 2) (minus (var 3)))) (plus (plus (var 0) (var 2)) (minus (plus (var 1) (var 3)))) refl

pub sum-neg : (n : ℕ) (f : ℕ → Rational) → neg (sum_to n f) ≡ sum_to n (λ i. neg (f i))
sum-neg zero f = ring_q [] (minus none) none refl
sum-neg (suc n) f = ring_q (sum_to n f ∷ (f n ∷ [])) (minus (plus (var 0) (var 1))) (plus (minus (var 0)) (minus (var 1))) refl ∙ ap (λ k. add k (neg (f n))) (sum-neg n f)

-- ---- signs and order
pub sum_nonneg : (n : ℕ) (f : ℕ → Rational) → ((i : ℕ) → i < n → IsNonneg (f i)) → IsNonneg (sum_to n f)
sum_nonneg zero f h = zero_nonneg
sum_nonneg (suc n) f h = nonneg-add (sum_to n f) (f n) (sum_nonneg n f (λ i l. h i (omega arith))) (h n (omega arith))

next_part : (n : ℕ) (f : ℕ → Rational) → ((i : ℕ) → i < n → f i ≡ zero_q) → f n ≡ zero_q → (i : ℕ) → i < suc n → f i ≡ zero_q
next_part n f h e = λ i l.
    elim (cases_eq i n) [
      | inl k ↦ ap f k ∙ e
      | inr ne ↦ h i (omega arith)
    ]

-- a sum of zeros
pub sum_all_zero : (n : ℕ) (f : ℕ → Rational) → ((i : ℕ) → i < n → f i ≡ zero_q) → sum_to n f ≡ zero_q
sum_all_zero n f h = sum_same n f (λ _. zero_q) h ∙ sum_of_zeros n

-- numbers that are not negative and sum to 0 are each 0
pub sum_parts_zero : (n : ℕ) (f : ℕ → Rational) → ((i : ℕ) → i < n → IsNonneg (f i)) → sum_to n f ≡ zero_q → (i : ℕ) → i < n → f i ≡ zero_q
sum_parts_zero zero f h e = λ i l. absurd (omega arith)
sum_parts_zero (suc n) f h e =
    let both = parts_zero (sum_to n f) (f n) (sum_nonneg n f (λ i l. h i (omega arith))) (h n (omega arith)) e in
    next_part n f (sum_parts_zero n f (λ i l. h i (omega arith)) both.0) both.1
