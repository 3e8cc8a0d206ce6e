-- Tables, columns and costs that agree within the width, and the one solution of a basis.
use Rattle.std.proofs.Common.{◌≡◌, ℕ, zero, suc, ◌<◌, sym, ap, ◌∙◌, arith}
use Rattle.ps_meaning.specs.Rational.{Rational, mul}
use Rattle.ps_meaning.specs.Sums.{sum_to}
use Rattle.ps_meaning.proofs.Sums.{sum_same}
use Rattle.ps_simplex.specs.Table.{Belongs, IsBasisTable, carried_by, IsBasis, AreSameWithin, HaveSameCosts, AreSameBases, Solves}
use Rattle.ps_simplex.proofs.OneTable as tables

pub same_belongs : (n w : ℕ) (A B X Y : ℕ → ℕ → Rational) (basic : ℕ → ℕ) → IsBasis n w basic → AreSameWithin n w A B → AreSameWithin n w X Y → Belongs n w A basic X → Belongs n w B basic Y
same_belongs n w A B X Y basic hb ab xy belongs = λ m j hm hj.
    sum_same n (λ i. mul (Y i j) (B m (basic i))) (λ i. mul (X i j) (A m (basic i)))
    (λ i l. λ k. mul (sym (xy.same i j l hj) k) (sym (ab.same m (basic i) hm (hb i l)) k))
    ∙ belongs m j hm hj
    ∙ ab.same m j hm hj

pub same_stands : (n w : ℕ) (A B X Y : ℕ → ℕ → Rational) (basic : ℕ → ℕ) → n < w → IsBasis n w basic → AreSameWithin n w A B → AreSameWithin n w X Y → IsBasisTable n w A basic X → IsBasisTable n w B basic Y
same_stands n w A B X Y basic hn hb ab xy stands = record {
  homes = λ m j hm hj. sym (ab.same m j hm (omega arith)) ∙ stands.homes m j hm hj;
  belongs = same_belongs n w A B X Y basic hb ab xy stands.belongs;
  rows = λ i j h hj.
      sym (xy.same i j h hj)
      ∙ stands.rows i j h hj
      ∙ sum_same n (λ m. mul (X i (suc m)) (A m j)) (λ m. mul (Y i (suc m)) (B m j))
      (λ m l. λ k. mul (xy.same i (suc m) h (omega arith) k) (ab.same m j l hj k));
  here = λ i h. sym (xy.same i (basic i) h (hb i h)) ∙ stands.here i h;
  apart = λ i k h l ne. sym (xy.same i (basic k) h (hb k l)) ∙ stands.apart i k h l ne;
}

pub same_basics : (n w : ℕ) (A X : ℕ → ℕ → Rational) (old new : ℕ → ℕ) → AreSameBases n old new → IsBasisTable n w A old X → IsBasisTable n w A new X
same_basics n w A X old new b stands = record {
  homes = stands.homes;
  belongs = λ m j hm hj.
      sum_same n (λ i. mul (X i j) (A m (new i))) (λ i. mul (X i j) (A m (old i))) (λ i l. ap (λ k. mul (X i j) (A m k)) (sym (b.same i l)))
      ∙ stands.belongs m j hm hj;
  rows = stands.rows;
  here = λ i h. ap (X i) (sym (b.same i h)) ∙ stands.here i h;
  apart = λ i k h l ne. ap (X i) (sym (b.same k l)) ∙ stands.apart i k h l ne;
}

pub same_carried : (n w : ℕ) (X Y : ℕ → ℕ → Rational) (basic : ℕ → ℕ) (cost other : ℕ → Rational) (j : ℕ) → IsBasis n w basic → AreSameWithin n w X Y → HaveSameCosts w cost other → j < w → carried_by n cost basic X j ≡ carried_by n other basic Y j
same_carried n w X Y basic cost other j hb xy c hj =
    sum_same n (λ i. mul (cost (basic i)) (X i j)) (λ i. mul (other (basic i)) (Y i j))
    (λ i l. λ k. mul (c.same (basic i) (hb i l) k) (xy.same i j l hj k))

-- the table with other values in place of the right side
abbrev with_values : (ℕ → Rational) → (ℕ → ℕ → Rational) → ℕ → ℕ → Rational
with_values values X i zero = values i
with_values values X i (suc j) = X i (suc j)

solution_belongs : (n w : ℕ) (A X : ℕ → ℕ → Rational) (basic : ℕ → ℕ) (values : ℕ → Rational) → IsBasisTable n w A basic X → Solves n A basic values
    → (m j : ℕ) → m < n → j < w → sum_to n (λ i. mul (with_values values X i j) (A m (basic i))) ≡ A m j
solution_belongs n w A X basic values stands solves m zero hm hj = solves.rows m hm
solution_belongs n w A X basic values stands solves m (suc j) hm hj = stands.belongs m (suc j) hm hj

pub one_solution : (n w : ℕ) (A X : ℕ → ℕ → Rational) (basic : ℕ → ℕ) (values : ℕ → Rational) → n < w → IsBasis n w basic → IsBasisTable n w A basic X → Solves n A basic values → (i : ℕ) → i < n → values i ≡ X i 0
one_solution n w A X basic values hn hb stands solves i h =
    sym (tables.one_table n w A X (with_values values X) basic hn hb stands (solution_belongs n w A X basic values stands solves) i 0 h (omega arith))
