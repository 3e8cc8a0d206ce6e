-- The reduced costs of one table along a column of another.
use Rattle.std.proofs.Common.{◌≡◌, ℕ, suc, ◌<◌, [], ◌∷◌, sym, refl, ap, ◌∙◌}
use Rattle.ps_meaning.specs.Rational.{Rational, mul, sub}
use Rattle.ps_meaning.specs.Sums.{sum_to}
use Rattle.ps_meaning.proofs.Ring.{var, plus, by, minus}
use Rattle.ps_meaning.proofs.Field.{ring_q, mul_comm}
use Rattle.ps_meaning.proofs.Sums.{sum_same, sum_scale, sum_swap, sum-sub}
use Rattle.ps_simplex.specs.Table.{IsBasisTable, IsBasis, Belongs, carried_by}
use Rattle.ps_simplex.proofs.Pricing.{carried_is_priced}
use Rattle.ps_simplex.specs.Cycle.{gain}

module _ (n w : ℕ) (A X Y : ℕ → ℕ → Rational) (cost : ℕ → Rational) (a b : ℕ → ℕ) (stands : IsBasisTable n w A a X) (hb : IsBasis n w b) (belongs : Belongs n w A b Y) where
  abbrev price : ℕ → Rational
  price m = carried_by n cost a X (suc m)

  -- what X carries of a column is what it carries of the basic columns of Y, by the column's entries in Y
  pub carried_along : (j : ℕ) → j < w → carried_by n cost a X j ≡ sum_to n (λ i. mul (carried_by n cost a X (b i)) (Y i j))
  carried_along j hj =
      carried_is_priced n w A X a cost stands j hj
      ∙ sum_same n (λ m. mul (price m) (A m j)) (λ m. sum_to n (λ i. mul (price m) (mul (Y i j) (A m (b i)))))
      (λ m l. ap (mul (price m)) (sym (belongs m j l hj)) ∙ sum_scale n (price m) (λ i. mul (Y i j) (A m (b i))))
      ∙ sum_swap n n (λ m i. mul (price m) (mul (Y i j) (A m (b i))))
      ∙ sum_same n (λ i. sum_to n (λ m. mul (price m) (mul (Y i j) (A m (b i))))) (λ i. mul (carried_by n cost a X (b i)) (Y i j))
      (λ i l. sum_same n (λ m. mul (price m) (mul (Y i j) (A m (b i)))) (λ m. mul (Y i j) (mul (price m) (A m (b i))))
      (λ m k. ring_q (price m ∷ (Y i j ∷ (A m (b i) ∷ []))) (by (var 0) (by (var 1) (var 2))) (by (var 1) (by (var 0) (var 2))) refl)
      ∙ sym (sum_scale n (Y i j) (λ m. mul (price m) (A m (b i))))
      ∙ ap (mul (Y i j)) (sym (carried_is_priced n w A X a cost stands (b i) (hb i l)))
      ∙ mul_comm (Y i j) (carried_by n cost a X (b i)))

  pub reduced_along : (j : ℕ) → j < w → gain n cost b Y j ≡ sub (gain n cost a X j) (sum_to n (λ i. mul (gain n cost a X (b i)) (Y i j)))
  reduced_along j hj =
      let along : sum_to n (λ i. mul (gain n cost a X (b i)) (Y i j)) ≡ sub (carried_by n cost a X j) (carried_by n cost b Y j) =
      sum_same n (λ i. mul (gain n cost a X (b i)) (Y i j)) (λ i. sub (mul (carried_by n cost a X (b i)) (Y i j)) (mul (cost (b i)) (Y i j)))
      (λ i l. ring_q (carried_by n cost a X (b i) ∷ (cost (b i) ∷ (Y i j ∷ []))) (by (plus (var 0) (minus (var 1))) (var 2)) (plus (by (var 0) (var 2)) (minus (by (var 1) (var 2)))) refl)
      ∙ sum-sub n (λ i. mul (carried_by n cost a X (b i)) (Y i j)) (λ i. mul (cost (b i)) (Y i j))
      ∙ ap (λ k. sub k (carried_by n cost b Y j)) (sym (carried_along j hj)) in
      ring_q (carried_by n cost a X j ∷ (carried_by n cost b Y j ∷ (cost j ∷ []))) (plus (var 1) (minus (var 2))) (plus (plus (var 0) (minus (var 2))) (minus (plus (var 0) (minus (var 1))))) refl
      ∙ ap (sub (gain n cost a X j)) (sym along)
