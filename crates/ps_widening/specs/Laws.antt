-- What holds of widenings and Dutch books.
use Rattle.std.specs.Prelude.{◌<◌, ℕ, pos, ◌*ℤ◌, ◌≤ℤ◌, List, sum}
use Rattle.ps_meaning.specs.Distribution.{Entry, IsDistribution}
use Rattle.ps_meaning.specs.Rows.{Row}
use Rattle.ps_meaning.specs.Rational.{Rational}
use Rattle.ps_claims.specs.Duals.{Dual}
use Rattle.ps_widening.specs.Widenings.{IsWidenedAtLeast, IsLeastWidening, MeetsAllWidened}
use Rattle.ps_widening.specs.Books.{IsBook}

-- no distribution has a widening below the value of a Dutch book
abbrev pub BooksBoundWidenings : Type 0
BooksBoundWidenings = (atoms unit : ℕ) (rows : List Row) (value : Rational) (d : Dual) (e : List Entry)
    → IsBook atoms unit rows value d → IsDistribution atoms e → IsWidenedAtLeast unit rows value e

-- where rows are widened so that a distribution meets them, their widenings sum to no less than the least widening
abbrev pub LeastWideningsBoundSums : Type 0
LeastWideningsBoundSums = (atoms unit den : ℕ) (rows : List Row) (value : Rational) (d e : List Entry) (xs : List ℕ) → 0 < unit
    → IsLeastWidening atoms unit rows value d → IsDistribution atoms e → MeetsAllWidened unit den rows xs e
    → (value.over *ℤ pos den) ≤ℤ (pos value.under *ℤ pos (sum xs))
