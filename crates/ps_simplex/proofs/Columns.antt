-- The homes' table, and a world's column made from the home columns.
use Rattle.std.proofs.Common.{◌≡◌, ℕ, suc, ◌-◌, ◌<◌, [], ◌∷◌, sym, refl, ap, ◌∙◌, subst, arith, inl, inr}
use Rattle.std.proofs.lemmas.Bool.{cases_eq}
use Rattle.ps_meaning.specs.Rational.{Rational, mul}
use Rattle.ps_meaning.specs.Sums.{sum_to}
use Rattle.ps_meaning.proofs.Ring.{var, by}
use Rattle.ps_meaning.proofs.Field.{ring_q, mul_comm}
use Rattle.ps_meaning.proofs.Sums.{sum_same, sum_scale, sum_swap, unit_sum}
use Rattle.ps_simplex.specs.Table.{unit_at, HasHomes, IsBasisTable}
use Rattle.ps_simplex.proofs.Units.{less_one, unit_at-same, unit_at-other}

new_belongs : (n w : ℕ) (A X Z : ℕ → ℕ → Rational) (basic : ℕ → ℕ) → n < w
    → ((m k : ℕ) → m < n → k < n → A m (suc k) ≡ unit_at m k)
    → ((i : ℕ) → i < n → Z i w ≡ sum_to n (λ m. mul (X i (suc m)) (A m w)))
    → (m : ℕ) → m < n
    → ((k : ℕ) → k < n → sum_to n (λ i. mul (X i (suc k)) (A m (basic i))) ≡ A m (suc k))
    → sum_to n (λ i. mul (Z i w) (A m (basic i))) ≡ A m w
new_belongs n w A X Z basic hn homes made m hm belongs =
    sum_same n (λ i. mul (Z i w) (A m (basic i))) (λ i. sum_to n (λ k. mul (A k w) (mul (X i (suc k)) (A m (basic i)))))
    (λ i l. ap (λ z. mul z (A m (basic i))) (made i l)
    ∙ mul_comm (sum_to n (λ k. mul (X i (suc k)) (A k w))) (A m (basic i))
    ∙ sum_scale n (A m (basic i)) (λ k. mul (X i (suc k)) (A k w))
    ∙ sum_same n (λ k. mul (A m (basic i)) (mul (X i (suc k)) (A k w))) (λ k. mul (A k w) (mul (X i (suc k)) (A m (basic i))))
    (λ k r. ring_q (A m (basic i) ∷ (X i (suc k) ∷ (A k w ∷ []))) (by (var 0) (by (var 1) (var 2))) (by (var 2) (by (var 1) (var 0))) refl))
    ∙ sum_swap n n (λ i k. mul (A k w) (mul (X i (suc k)) (A m (basic i))))
    ∙ sum_same n (λ k. sum_to n (λ i. mul (A k w) (mul (X i (suc k)) (A m (basic i))))) (λ k. mul (A k w) (A m (suc k)))
    (λ k l. sym (sum_scale n (A k w) (λ i. mul (X i (suc k)) (A m (basic i)))) ∙ ap (mul (A k w)) (belongs k l))
    ∙ unit_sum n m (λ k. A k w) (λ k. A m (suc k)) hm (homes m m hm hm ∙ unit_at-same m) (λ k l ne. homes m k hm l ∙ unit_at-other m k (λ e. ne (sym e)))

-- a new column, made from the home columns: the table stands with one column more
pub stands_more : (n w : ℕ) (A X Z : ℕ → ℕ → Rational) (basic : ℕ → ℕ) → n < w → ((i : ℕ) → i < n → basic i < w)
    → ((i j : ℕ) → i < n → j < w → Z i j ≡ X i j)
    → ((i : ℕ) → i < n → Z i w ≡ sum_to n (λ m. mul (X i (suc m)) (A m w)))
    → IsBasisTable n w A basic X → IsBasisTable n (suc w) A basic Z
stands_more n w A X Z basic hn hb same made stands = record {
  homes = stands.homes;
  belongs = λ m j hm hj.
      elim (cases_eq j w) [
        | inl e ↦ subst (λ k. sum_to n (λ i. mul (Z i k) (A m (basic i))) ≡ A m k) (sym e) (new_belongs n w A X Z basic hn (λ m k h l. stands.homes m (suc k) h (omega arith) ∙ ap (unit_at m) (less_one k)) made m hm (λ k l. stands.belongs m (suc k) hm (omega arith)))
        | inr ne ↦ sum_same n (λ i. mul (Z i j) (A m (basic i))) (λ i. mul (X i j) (A m (basic i))) (λ i l. ap (λ k. mul k (A m (basic i))) (same i j l (omega arith))) ∙ stands.belongs m j hm (omega arith)
      ];
  rows = λ i j h hj.
      let homes_same : sum_to n (λ m. mul (X i (suc m)) (A m j)) ≡ sum_to n (λ m. mul (Z i (suc m)) (A m j)) = sum_same n (λ m. mul (X i (suc m)) (A m j)) (λ m. mul (Z i (suc m)) (A m j)) (λ m l. ap (λ k. mul k (A m j)) (sym (same i (suc m) h (omega arith)))) in
      elim (cases_eq j w) [
        | inl e ↦ ap (Z i) e ∙ made i h ∙ ap (λ k. sum_to n (λ m. mul (X i (suc m)) (A m k))) (sym e) ∙ homes_same
        | inr ne ↦ same i j h (omega arith) ∙ stands.rows i j h (omega arith) ∙ homes_same
      ];
  here = λ i h. same i (basic i) h (hb i h) ∙ stands.here i h;
  apart = λ i k h l ne. same i (basic k) h (hb k l) ∙ stands.apart i k h l ne;
}

-- the table of the homes
pub stands_new : (n w : ℕ) (A X : ℕ → ℕ → Rational) (basic : ℕ → ℕ) → 0 < n → n < w
    → HasHomes n A
    → ((i j : ℕ) → i < n → j < w → X i j ≡ unit_at i (j - 1))
    → ((i : ℕ) → i < n → basic i ≡ suc i)
    → w ≡ suc n
    → IsBasisTable n w A basic X
stands_new n w A X basic h0 hn a x b e = record {
  homes = a;
  belongs = λ m j hm hj.
      sum_same n (λ i. mul (X i j) (A m (basic i))) (λ i. mul (X i j) (unit_at m i)) (λ i l. ap (mul (X i j)) (ap (A m) (b i l) ∙ a m (suc i) hm (omega arith) ∙ ap (unit_at m) (less_one i)))
      ∙ unit_sum n m (λ i. X i j) (unit_at m) hm (unit_at-same m) (λ k l ne. unit_at-other m k (λ f. ne (sym f)))
      ∙ x m j hm hj
      ∙ sym (a m j hm (omega arith));
  rows = λ i j h hj.
      x i j h hj
      ∙ sym (a i j h (omega arith))
      ∙ sym (unit_sum n i (λ m. A m j) (unit_at i) h (unit_at-same i) (λ k l ne. unit_at-other i k (λ f. ne (sym f))))
      ∙ sum_same n (λ m. mul (A m j) (unit_at i m)) (λ m. mul (X i (suc m)) (A m j)) (λ m l. mul_comm (A m j) (unit_at i m) ∙ ap (λ k. mul k (A m j)) (sym (x i (suc m) h (omega arith) ∙ ap (unit_at i) (less_one m))));
  here = λ i h. ap (X i) (b i h) ∙ x i (suc i) h (omega arith) ∙ ap (unit_at i) (less_one i) ∙ unit_at-same i;
  apart = λ i k h l ne. ap (X i) (b k l) ∙ x i (suc k) h (omega arith) ∙ ap (unit_at i) (less_one k) ∙ unit_at-other i k (λ f. ne (sym f));
}
