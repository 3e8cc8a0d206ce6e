-- A basis has one table.
use Rattle.std.proofs.Common.{◌≡◌, ℕ, suc, ◌<◌, [], ◌∷◌, sym, refl, ap, ◌∙◌}
use Rattle.ps_meaning.specs.Rational.{Rational, mul}
use Rattle.ps_meaning.specs.Sums.{sum_to}
use Rattle.ps_meaning.proofs.Ring.{var, by}
use Rattle.ps_meaning.proofs.Field.{ring_q}
use Rattle.ps_meaning.proofs.Sums.{sum_same, sum_scale, sum_swap, unit_sum}
use Rattle.ps_simplex.specs.Table.{Belongs, IsBasisTable}

-- a basis that pivots reach has one table
pub one_table : (n w : ℕ) (A X Y : ℕ → ℕ → Rational) (basic : ℕ → ℕ) → n < w → ((i : ℕ) → i < n → basic i < w) → IsBasisTable n w A basic X
    → Belongs n w A basic Y
    → (i j : ℕ) → i < n → j < w → X i j ≡ Y i j
one_table n w A X Y basic hn hb stands belongs = λ i j h hj.
    stands.rows i j h hj
    ∙ sum_same n (λ m. mul (X i (suc m)) (A m j)) (λ m. sum_to n (λ k. mul (X i (suc m)) (mul (Y k j) (A m (basic k)))))
    (λ m l. ap (mul (X i (suc m))) (sym (belongs m j l hj)) ∙ sum_scale n (X i (suc m)) (λ k. mul (Y k j) (A m (basic k))))
    ∙ sum_swap n n (λ m k. mul (X i (suc m)) (mul (Y k j) (A m (basic k))))
    ∙ sum_same n (λ k. sum_to n (λ m. mul (X i (suc m)) (mul (Y k j) (A m (basic k))))) (λ k. mul (Y k j) (X i (basic k)))
    (λ k l. sum_same n (λ m. mul (X i (suc m)) (mul (Y k j) (A m (basic k)))) (λ m. mul (Y k j) (mul (X i (suc m)) (A m (basic k))))
    (λ m r. ring_q (X i (suc m) ∷ (Y k j ∷ (A m (basic k) ∷ []))) (by (var 0) (by (var 1) (var 2))) (by (var 1) (by (var 0) (var 2))) refl)
    ∙ sym (sum_scale n (Y k j) (λ m. mul (X i (suc m)) (A m (basic k))))
    ∙ ap (mul (Y k j)) (sym (stands.rows i (basic k) h (hb k l))))
    ∙ unit_sum n i (λ k. Y k j) (λ k. X i (basic k)) h (stands.here i h) (λ k l ne. stands.apart i k h l ne)
