-- Dutch books: bets at the stated prices by which whoever holds to all of them loses, whatever happens.
use Rattle.std.specs.Prelude.{ℕ, ◌*◌, pos, ◌+ℤ◌, ◌≤ℤ◌, unsigned_abs, List, All}
use Rattle.ps_meaning.specs.Rows.{Row}
use Rattle.ps_meaning.specs.Rational.{Rational}
use Rattle.ps_claims.specs.Duals.{Dual, HaveSigns, HasValueHead, IsNeverAbove, sum_of_rows}

-- no bet is on the wrong side of its row, each stake is at most the top over the unit, and the head is lost in every world, so
-- that for each whole stake the value is lost
pub record IsBook (atoms unit : ℕ) (rows : List Row) (value : Rational) (d : Dual) : Type 0 where
  pub head : HasValueHead value d
  pub signs : HaveSigns rows d.rows
  pub stakes : All (λ y. pos (unsigned_abs y * unit) ≤ℤ d.top) d.rows
  pub never : IsNeverAbove atoms (λ w. d.head +ℤ sum_of_rows rows d.rows w)
