-- Which problems there are: those of lawful items within the limits.
use Rattle.std.specs.Prelude.{◌≡◌, List, Ok, All}
use Rattle.ps_meaning.specs.Formula.{Formula}
use Rattle.ps_meaning.specs.Names.{IsName}
use Rattle.ps_meaning.specs.Statements.{Name, Item}
use Rattle.ps_problem.specs.Problems.{Parts, AreParts}
use Rattle.ps_problem.specs.Numbering.{problem_of}
use Rattle.ps_problem.specs.Counts.{counted}
use Rattle.ps_problem.specs.Drafts.{HasReducedValues, IsNested}

-- a problem of some items: nodes and atoms are numbered in the order in which they first come, the values are reduced
-- and at most 1, no canonical spelling nests too deep, the limits are kept, and the names are names
pub record IsProblem (p : Parts) : Type 0 where
  pub parts : AreParts p
  pub items : List Item
  pub formulas : List (Formula Name)
  pub reduced : All HasReducedValues items
  pub nested : All IsNested items
  pub within : counted items ≡ Ok formulas
  pub numbered : p ≡ problem_of items
  pub named : All IsName p.names
