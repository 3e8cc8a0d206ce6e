-- Between which numbers the bounds of a query lie that aren't known.
use Rattle.std.specs.Prelude.{ℕ, List, ◌++◌, codes, Option, Some, None}
use Rattle.ps_spoken.specs.Numbers.{low_text, high_text}
use Rattle.ps_spoken.specs.declared.reached.Reached.{Reached}

-- a lower bound is at least 0, and at most the least value that is reached, rounded up
abbrev pub lower_between : ℕ → Option Reached → List ℕ
lower_between digits (Some r) = codes "lower bound between 0 (proved) and " ++ (high_text digits r.least ++ codes " (reached)")
lower_between digits None = codes "lower bound at least 0 (proved)"

-- an upper bound is at least the greatest value that is reached, rounded down, and at most 1
abbrev pub upper_between : ℕ → Option Reached → List ℕ
upper_between digits (Some r) = codes "upper bound between " ++ (low_text digits r.greatest ++ codes " (reached) and 1 (proved)")
upper_between digits None = codes "upper bound at most 1 (proved)"
