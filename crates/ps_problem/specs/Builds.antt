-- When a problem is made of a draft's items, and when it is refused.
use Rattle.std.specs.Prelude.{◌≡◌, List, Option, Some, None, Result, Ok, Err, IfSome}
use Rattle.ps_meaning.specs.Formula.{Formula}
use Rattle.ps_meaning.specs.Statements.{Name, Item}
use Rattle.ps_problem.specs.declared.build_error.BuildError.{BuildError}
use Rattle.ps_problem.specs.declared.build_error.BuildError.TheVariants as error
use Rattle.ps_problem.specs.Problems.{Parts}
use Rattle.ps_problem.specs.Numbering.{problem_of}
use Rattle.ps_problem.specs.declared.excess.Excess.TheVariants.{Atoms, Nodes, Bounds, Queries, Numbers}
use Rattle.ps_problem.specs.Counts.{ItemExcess, counted}

-- the excess that an error tells of, none where memory ran out
abbrev pub item_excess_of : BuildError → Option ItemExcess
item_excess_of (error.TooManyAtoms n) = Some (record { excess = Atoms; item = n })
item_excess_of (error.TooManyNodes n) = Some (record { excess = Nodes; item = n })
item_excess_of (error.TooManyBounds n) = Some (record { excess = Bounds; item = n })
item_excess_of (error.TooManyQueries n) = Some (record { excess = Queries; item = n })
item_excess_of (error.LinearTooLarge n) = Some (record { excess = Numbers; item = n })
item_excess_of error.NoMemory = None

-- an error tells of the first excess of items
abbrev pub TellsExcess : List Item → BuildError → Type 0
TellsExcess items e = IfSome (item_excess_of e) (λ r. counted items ≡ Err r)

-- items pass no limit, and the result is their problem; or an error tells of the first excess
abbrev pub IsBuilt : List Item → Result Parts BuildError → Type 0
IsBuilt items (Ok p) = (fs : List (Formula Name)) × (counted items ≡ Ok fs) × (p ≡ problem_of items)
IsBuilt items (Err e) = TellsExcess items e
