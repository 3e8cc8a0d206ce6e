-- What a table that stands for rows and columns says of costs: multipliers price every column, and the right side.
use Rattle.std.proofs.Common.{◌≡◌, ℕ, suc, ◌<◌, [], ◌∷◌, sym, refl, ap, ◌∙◌, arith}
use Rattle.ps_meaning.specs.Rational.{Rational, mul}
use Rattle.ps_meaning.specs.Sums.{sum_to}
use Rattle.ps_meaning.proofs.Ring.{var, by}
use Rattle.ps_meaning.proofs.Field.{ring_q, mul_comm}
use Rattle.ps_meaning.proofs.Sums.{sum_same, sum_scale, sum_swap}
use Rattle.ps_simplex.specs.Table.{IsBasisTable, carried_by}

-- the right side is the column of the first home
pub right_is_home : (n w : ℕ) (A X : ℕ → ℕ → Rational) (basic : ℕ → ℕ) → 0 < n → n < w → IsBasisTable n w A basic X → (i : ℕ) → i < n → X i 0 ≡ X i 1
right_is_home n w A X basic h0 hn stands = λ i l.
    stands.rows i 0 l (omega arith)
    ∙ sum_same n (λ m. mul (X i (suc m)) (A m 0)) (λ m. mul (X i (suc m)) (A m 1)) (λ m k. ap (mul (X i (suc m))) (stands.homes m 0 k (omega arith) ∙ sym (stands.homes m 1 k (omega arith))))
    ∙ sym (stands.rows i 1 l (omega arith))

-- so what the rows carry of the right side is the multiplier of row 0
pub value_is_multiplier : (n w : ℕ) (A X : ℕ → ℕ → Rational) (basic : ℕ → ℕ) (cost : ℕ → Rational) → 0 < n → n < w → IsBasisTable n w A basic X → carried_by n cost basic X 0 ≡ carried_by n cost basic X 1
value_is_multiplier n w A X basic cost h0 hn stands =
    sum_same n (λ i. mul (cost (basic i)) (X i 0)) (λ i. mul (cost (basic i)) (X i 1)) (λ i l. ap (mul (cost (basic i))) (right_is_home n w A X basic h0 hn stands i l))

-- the carried cost of a column is the sum of the multipliers times its entries
pub carried_is_priced : (n w : ℕ) (A X : ℕ → ℕ → Rational) (basic : ℕ → ℕ) (cost : ℕ → Rational) → IsBasisTable n w A basic X → (j : ℕ) → j < w → carried_by n cost basic X j ≡ sum_to n (λ m. mul (carried_by n cost basic X (suc m)) (A m j))
carried_is_priced n w A X basic cost stands = λ j h.
    sum_same n (λ i. mul (cost (basic i)) (X i j)) (λ i. sum_to n (λ m. mul (A m j) (mul (cost (basic i)) (X i (suc m)))))
    (λ i l. ap (mul (cost (basic i))) (stands.rows i j l h)
    ∙ sum_scale n (cost (basic i)) (λ m. mul (X i (suc m)) (A m j))
    ∙ sum_same n (λ m. mul (cost (basic i)) (mul (X i (suc m)) (A m j))) (λ m. mul (A m j) (mul (cost (basic i)) (X i (suc m))))
    (λ m k. ring_q (cost (basic i) ∷ (X i (suc m) ∷ (A m j ∷ []))) (by (var 0) (by (var 1) (var 2))) (by (var 2) (by (var 0) (var 1))) refl))
    ∙ sum_swap n n (λ i m. mul (A m j) (mul (cost (basic i)) (X i (suc m))))
    ∙ sum_same n (λ m. sum_to n (λ i. mul (A m j) (mul (cost (basic i)) (X i (suc m))))) (λ m. mul (carried_by n cost basic X (suc m)) (A m j))
    (λ m k. sym (sum_scale n (A m j) (λ i. mul (cost (basic i)) (X i (suc m)))) ∙ mul_comm (A m j) (carried_by n cost basic X (suc m)))
