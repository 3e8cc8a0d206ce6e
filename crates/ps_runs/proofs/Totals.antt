-- The weights by rows sum to the model's total.
use Rattle.std.proofs.Common.{◌≡◌, ℕ, suc, ◌+◌, ◌<◌, pos, Bool, true, false, cond, ltb, lt-ltb, List, [], ◌∷◌, length, get_or, sym, refl, ap, ◌∙◌, subst, arith}
use Rattle.std.proofs.lemmas.Bool.{le-ltb}
use Rattle.std.specs.Int.{◌∣◌}
use Rattle.ps_meaning.specs.Rational.{Rational, whole, add, mul, zero_q, one_q}
use Rattle.ps_meaning.specs.Sums.{sum_to, int_sum_to}
use Rattle.ps_meaning.proofs.Ring.{var, plus, by, none, unit}
use Rattle.ps_meaning.proofs.Field.{ring_q, zero_is_fraction, one_is_fraction}
use Rattle.ps_meaning.proofs.Sums.{sum_same, sum_scale, sum_of_zeros, sum_split}
use Rattle.ps_meaning.proofs.Whole.{whole_sum}
use Rattle.ps_meaning.specs.Formula.{World, Truth}
use Rattle.ps_meaning.specs.Distribution.{total}
use Rattle.ps_meaning.specs.Rows.{indicator}
use Rattle.ps_meaning.proofs.Rows.{weighted_sum-indicator}
use Rattle.ps_simplex.specs.Rule.{SimplexTable}
use Rattle.ps_runs.specs.Rows.{Setting, rows_of, width_of, table_of, IsTable}
use Rattle.ps_table.specs.Places.{weight_under, weight_at}
use Rattle.ps_runs.specs.Certificates.{value_of, weight_multiple, weighted_worlds}
use Rattle.ps_runs.proofs.BasicSolution.{basic_sum}
use Rattle.ps_runs.proofs.Models.{under_positive, model_sum}
use Rattle.ps_meaning.proofs.Multiples.{lcm_to_multiple}
use Rattle.ps_meaning.proofs.Scaling.{scaled_is, whole_tells}
use Rattle.ps_meaning.specs.Scaled.{scaled}

module _ (s : Setting) (pool : List World) (basic : ℕ → ℕ) (X : ℕ → ℕ → Rational) (t : IsTable s pool basic X) where
  abbrev n : ℕ
  n = rows_of s

  abbrev f : SimplexTable
  f = table_of s pool basic X

  abbrev big : ℕ
  big = weight_multiple f

  abbrev counts : ℕ → Rational
  counts j = cond (ltb n j) one_q zero_q

  -- a row's weight
  row_weight : (i : ℕ) → i < n → whole (weight_at n basic X i) ≡ mul (whole (pos big)) (mul (X i 0) (counts (basic i)))
  row_weight i l = cases (ltb n (basic i)) refl
    where
      cases : (b : Bool) → ltb n (basic i) ≡ b → whole (cond b (scaled big (X i 0)) (pos 0)) ≡ mul (whole (pos big)) (mul (X i 0) (cond b one_q zero_q))
      cases true e =
          let same : weight_under n basic X i ≡ (X i 0).under = ap (λ b. cond b (X i 0).under 1) e in
          scaled_is big (X i 0) (subst (λ m. m ∣ big) same (lcm_to_multiple n (weight_under n basic X) (under_positive s pool basic X t) i l))
          ∙ ring_q (whole (pos big) ∷ (X i 0 ∷ [])) (by (var 0) (var 1)) (by (var 0) (by (var 1) unit)) refl
      cases false e = zero_is_fraction ∙ ring_q (whole (pos big) ∷ (X i 0 ∷ [])) none (by (var 0) (by (var 1) none)) refl

  homes_apart : sum_to (suc n) (λ j. mul (value_of f j) (counts j)) ≡ zero_q
  homes_apart =
      sum_same (suc n) (λ j. mul (value_of f j) (counts j)) (λ _. zero_q)
      (λ j l. ap (λ b. mul (value_of f j) (cond b one_q zero_q)) (le-ltb n j (omega arith)) ∙ ring_q (value_of f j ∷ []) (by (var 0) none) none refl)
      ∙ sum_of_zeros (suc n)

  pub total_by_rows : int_sum_to n (weight_at n basic X) ≡ total (weighted_worlds f pool)
  total_by_rows =
      let values = sum_to (length pool) (λ k. mul (value_of f (suc (n + k))) (whole (indicator Truth (get_or pool k [])))) in
      let rows : whole (int_sum_to n (weight_at n basic X)) ≡ mul (whole (pos big)) (sum_to n (λ i. mul (X i 0) (counts (basic i)))) =
      sym (whole_sum n (weight_at n basic X))
      ∙ sum_same n (λ i. whole (weight_at n basic X i)) (λ i. mul (whole (pos big)) (mul (X i 0) (counts (basic i)))) row_weight
      ∙ sym (sum_scale n (whole (pos big)) (λ i. mul (X i 0) (counts (basic i)))) in
      let columns : sum_to n (λ i. mul (X i 0) (counts (basic i))) ≡ values =
      basic_sum n (width_of s pool) basic (λ i. X i 0) counts t.last
      ∙ sum_split n (length pool) (λ j. mul (value_of f j) (counts j))
      ∙ (λ i. add (homes_apart i) (sum_same (length pool) (λ k. mul (value_of f (suc (n + k))) (counts (suc (n + k)))) (λ k. mul (value_of f (suc (n + k))) (whole (indicator Truth (get_or pool k []))))
      (λ k l. ap (mul (value_of f (suc (n + k)))) (ap (λ b. cond b one_q zero_q) (lt-ltb n (suc (n + k)) (omega arith)) ∙ sym one_is_fraction)) i))
      ∙ ring_q (values ∷ []) (plus none (var 0)) (var 0) refl in
      whole_tells (int_sum_to n (weight_at n basic X)) (total (weighted_worlds f pool))
      (rows ∙ ap (mul (whole (pos big))) columns ∙ sym (model_sum s pool basic X t (indicator Truth)) ∙ ap whole (weighted_sum-indicator (weighted_worlds f pool) Truth))
