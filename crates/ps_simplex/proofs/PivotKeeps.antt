-- A pivot keeps the table that of its basis.
use Rattle.std.proofs.Common.{◌≡◌, ◌≢◌, ℕ, zero, suc, ◌<◌, ◌≤◌, [], ◌∷◌, sym, refl, ap, ◌∙◌, subst, arith, inl, inr}
use Rattle.std.proofs.lemmas.Bool.{cases_eq}
use Rattle.ps_meaning.specs.Rational.{Rational, add, mul, sub, div, inverse, zero_q, one_q}
use Rattle.ps_meaning.specs.Sums.{sum_to}
use Rattle.ps_meaning.proofs.Ring.{var, plus, by, minus, none, unit}
use Rattle.ps_meaning.proofs.Field.{mul-inverse, div-mul, ring_q}
use Rattle.ps_meaning.proofs.Sums.{sum_same, sum_scale, sum-sub}
use Rattle.ps_simplex.specs.Table.{Pivoted, Based, IsBasisTable}

module _ (n w p q : ℕ) (X Y : ℕ → ℕ → Rational) (old new : ℕ → ℕ) (hn : n < w) (hb : (i : ℕ) → i < n → old i < w) (hp : p < n) (hc : q < w) (hq : X p q ≢ zero_q) (pivoted : Pivoted n w p q X Y) (based : Based n p q old new) where
  own : Y p q ≡ one_q
  own = pivoted.row q hc ∙ mul-inverse (X p q) hq

  clear : (i : ℕ) → i < n → i ≢ p → Y i q ≡ zero_q
  clear i h ne =
      pivoted.others i q h hc ne
      ∙ ap (λ k. sub (X i q) (mul (X i q) k)) own
      ∙ ring_q (X i q ∷ []) (plus (var 0) (minus (by (var 0) unit))) none refl

  -- the new row p where the old one has 0
  blank : (j : ℕ) → j < w → X p j ≡ zero_q → Y p j ≡ zero_q
  blank j hj e = pivoted.row j hj ∙ ap (λ k. div k (X p q)) e ∙ ring_q (inverse (X p q) ∷ []) (by none (var 0)) none refl

  same : (i j : ℕ) → i < n → j < w → i ≢ p → X p j ≡ zero_q → Y i j ≡ X i j
  same i j h hj ne e =
      pivoted.others i j h hj ne
      ∙ ap (λ k. sub (X i j) (mul (X i q) k)) (blank j hj e)
      ∙ ring_q (X i j ∷ (X i q ∷ [])) (plus (var 0) (minus (by (var 1) none))) (var 0) refl

  home_in : (m : ℕ) → m < n → suc m < w
  home_in m l = omega arith

  own_sum : (A : ℕ → ℕ → Rational) (j : ℕ) → j < w → X p j ≡ sum_to n (λ m. mul (X p (suc m)) (A m j)) → Y p j ≡ sum_to n (λ m. mul (Y p (suc m)) (A m j))
  own_sum A j hj e =
      pivoted.row j hj
      ∙ ap (λ k. div k (X p q)) e
      ∙ ring_q (sum_to n (λ m. mul (X p (suc m)) (A m j)) ∷ (inverse (X p q) ∷ [])) (by (var 0) (var 1)) (by (var 1) (var 0)) refl
      ∙ sum_scale n (inverse (X p q)) (λ m. mul (X p (suc m)) (A m j))
      ∙ sum_same n (λ m. mul (inverse (X p q)) (mul (X p (suc m)) (A m j))) (λ m. mul (Y p (suc m)) (A m j))
      (λ m l. ring_q (inverse (X p q) ∷ (X p (suc m) ∷ (A m j ∷ []))) (by (var 0) (by (var 1) (var 2))) (by (by (var 1) (var 0)) (var 2)) refl
      ∙ ap (λ k. mul k (A m j)) (sym (pivoted.row (suc m) (home_in m l))))

  row_sum : (A : ℕ → ℕ → Rational) (i j : ℕ) → j < w → X i j ≡ sum_to n (λ m. mul (X i (suc m)) (A m j)) → X p j ≡ sum_to n (λ m. mul (X p (suc m)) (A m j)) → i < n → i ≢ p → Y i j ≡ sum_to n (λ m. mul (Y i (suc m)) (A m j))
  row_sum A i j hj ei ep h ne =
      let pj : Y p j ≡ sum_to n (λ m. mul (Y p (suc m)) (A m j)) = own_sum A j hj ep in
      pivoted.others i j h hj ne
      ∙ (λ k. sub (ei k) (mul (X i q) (pj k)))
      ∙ ap (sub (sum_to n (λ m. mul (X i (suc m)) (A m j)))) (sum_scale n (X i q) (λ m. mul (Y p (suc m)) (A m j)))
      ∙ sym (sum-sub n (λ m. mul (X i (suc m)) (A m j)) (λ m. mul (X i q) (mul (Y p (suc m)) (A m j))))
      ∙ sum_same n (λ m. sub (mul (X i (suc m)) (A m j)) (mul (X i q) (mul (Y p (suc m)) (A m j)))) (λ m. mul (Y i (suc m)) (A m j))
      (λ m l. ring_q (X i (suc m) ∷ (A m j ∷ (X i q ∷ (Y p (suc m) ∷ [])))) (plus (by (var 0) (var 1)) (minus (by (var 2) (by (var 3) (var 1))))) (by (plus (var 0) (minus (by (var 2) (var 3)))) (var 1)) refl
      ∙ ap (λ k. mul k (A m j)) (sym (pivoted.others i (suc m) h (home_in m l) ne)))

  unit_here : ((i : ℕ) → i < n → X i (old i) ≡ one_q) → ((i k : ℕ) → i < n → k < n → k ≢ i → X i (old k) ≡ zero_q) → (i : ℕ) → i < n → Y i (new i) ≡ one_q
  unit_here one others i h =
      elim (cases_eq i p) [
        | inl e ↦ ap (λ k. Y k (new k)) e ∙ ap (Y p) based.here ∙ own
        | inr ne ↦ ap (Y i) (based.others i h ne) ∙ same i (old i) h (hb i h) ne (others p i hp h ne) ∙ one i h
      ]

  unit_apart : ((i k : ℕ) → i < n → k < n → k ≢ i → X i (old k) ≡ zero_q) → (i k : ℕ) → i < n → k < n → k ≢ i → Y i (new k) ≡ zero_q
  unit_apart others i k hi hk ne =
      elim (cases_eq k p) [
        | inl e ↦ ap (λ z. Y i (new z)) e ∙ ap (Y i) based.here ∙ clear i hi (λ f. ne (e ∙ sym f))
        | inr nk ↦
            elim (cases_eq i p) [
              | inl e ↦ ap (λ z. Y z (new k)) e ∙ ap (Y p) (based.others k hk nk) ∙ blank (old k) (hb k hk) (others p k hp hk nk)
              | inr ni ↦ ap (Y i) (based.others k hk nk) ∙ same i (old k) hi (hb k hk) ni (others p k hp hk nk) ∙ others i k hi hk ne
            ]
      ]

-- sums over rows after a pivot are those before it
module _ (N p : ℕ) (x y a u c : ℕ → Rational) (t b : Rational) (hp : p < N) (hu : u p ≡ t) (hc : c p ≡ b) (ht : mul t (y p) ≡ x p) (ou : (i : ℕ) → i < N → i ≢ p → u i ≡ sub (x i) (mul (y i) t)) (oc : (i : ℕ) → i < N → i ≢ p → c i ≡ a i) where
  abbrev S : ℕ → Rational
  S n = sum_to n (λ i. mul (x i) (a i))

  abbrev D : ℕ → Rational
  D n = sum_to n (λ i. mul (y i) (a i))

  abbrev U : ℕ → Rational
  U n = sum_to n (λ i. mul (u i) (c i))

  below : (n : ℕ) → n ≤ p → U n ≡ sub (S n) (mul t (D n))
  below zero h = ring_q (t ∷ []) none (plus none (minus (by (var 0) none))) refl
  below (suc n) h =
      let ne : n ≢ p = omega arith in
      let l : n < N = omega arith in
      (λ i. add (below n (omega arith) i) (mul (ou n l ne i) (oc n l ne i)))
      ∙ ring_q (S n ∷ (D n ∷ (t ∷ (x n ∷ (y n ∷ (a n ∷ []))))))
      (plus (plus (var 0) (minus (by (var 2) (var 1)))) (by (plus (var 3) (minus (by (var 4) (var 2)))) (var 5)))
      (plus (plus (var 0) (by (var 3) (var 5))) (minus (by (var 2) (plus (var 1) (by (var 4) (var 5))))))
      refl

  at : U (suc p) ≡ add (S (suc p)) (mul t (sub b (D (suc p))))
  at =
      (λ i. add (below p (omega arith) i) (mul (hu i) (hc i)))
      ∙ ring_q (S p ∷ (D p ∷ (t ∷ (y p ∷ (a p ∷ (b ∷ []))))))
      (plus (plus (var 0) (minus (by (var 2) (var 1)))) (by (var 2) (var 5)))
      (plus (plus (var 0) (by (by (var 2) (var 3)) (var 4))) (by (var 2) (plus (var 5) (minus (plus (var 1) (by (var 3) (var 4)))))))
      refl
      ∙ ap (λ k. add (add (S p) (mul k (a p))) (mul t (sub b (D (suc p))))) ht

  step : (n : ℕ) → n < N → n ≢ p → U n ≡ add (S n) (mul t (sub b (D n))) → U (suc n) ≡ add (S (suc n)) (mul t (sub b (D (suc n))))
  step n l ne h =
      (λ i. add (h i) (mul (ou n l ne i) (oc n l ne i)))
      ∙ ring_q (S n ∷ (D n ∷ (t ∷ (x n ∷ (y n ∷ (a n ∷ (b ∷ [])))))))
      (plus (plus (var 0) (by (var 2) (plus (var 6) (minus (var 1))))) (by (plus (var 3) (minus (by (var 4) (var 2)))) (var 5)))
      (plus (plus (var 0) (by (var 3) (var 5))) (by (var 2) (plus (var 6) (minus (plus (var 1) (by (var 4) (var 5)))))))
      refl

  above : (n : ℕ) → n ≤ N → p < n → U n ≡ add (S n) (mul t (sub b (D n)))
  above zero k h = absurd (omega arith)
  above (suc n) k h =
      elim (cases_eq n p) [
        | inl e ↦ subst (λ k. U (suc k) ≡ add (S (suc k)) (mul t (sub b (D (suc k))))) (sym e) at
        | inr ne ↦ step n (omega arith) ne (above n (omega arith) (omega arith))
      ]

  pub swapped : D N ≡ b → U N ≡ S N
  swapped e =
      above N (omega arith) hp
      ∙ ap (λ k. add (S N) (mul t (sub b k))) e
      ∙ ring_q (S N ∷ (t ∷ (b ∷ []))) (plus (var 0) (by (var 1) (plus (var 2) (minus (var 2))))) (var 0) refl

-- a pivot keeps the table that of its basis, with all four equations
pub stands_kept : (n w p q : ℕ) (A X Y : ℕ → ℕ → Rational) (old new : ℕ → ℕ) → n < w → ((i : ℕ) → i < n → old i < w) → p < n → q < w → X p q ≢ zero_q → Pivoted n w p q X Y → Based n p q old new → IsBasisTable n w A old X → IsBasisTable n w A new Y
stands_kept n w p q A X Y old new hn hb hp hc hq pivoted based stands = record {
  homes = stands.homes;
  belongs = λ m j hm hj.
      swapped n p (λ i. X i j) (λ i. X i q) (λ i. A m (old i)) (λ i. Y i j) (λ i. A m (new i)) (Y p j) (A m q)
      hp
      refl
      (ap (A m) based.here)
      (ap (λ k. mul k (X p q)) (pivoted.row j hj) ∙ div-mul (X p j) (X p q) hq)
      (λ i h ne. pivoted.others i j h hj ne)
      (λ i h ne. ap (A m) (based.others i h ne))
      (stands.belongs m q hm hc)
      ∙ stands.belongs m j hm hj;
  rows = λ i j h hj.
      elim (cases_eq i p) [
        | inl e ↦ subst (λ k. Y k j ≡ sum_to n (λ m. mul (Y k (suc m)) (A m j))) (sym e) (own_sum n w p q X Y old new hn hb hp hc hq pivoted based A j hj (stands.rows p j hp hj))
        | inr ne ↦ row_sum n w p q X Y old new hn hb hp hc hq pivoted based A i j hj (stands.rows i j h hj) (stands.rows p j hp hj) h ne
      ];
  here = unit_here n w p q X Y old new hn hb hp hc hq pivoted based stands.here stands.apart;
  apart = unit_apart n w p q X Y old new hn hb hp hc hq pivoted based stands.apart;
}
