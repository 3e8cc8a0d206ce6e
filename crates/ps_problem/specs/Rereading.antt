-- What is read in the canonical text of a problem.
use Rattle.std.specs.Prelude.{◌≡◌, List, Ok, length}
use Rattle.ps_meaning.specs.Formula.{Formula}
use Rattle.ps_meaning.specs.Statements.{Name}
use Rattle.ps_text.specs.Canonical.{canonical_text}
use Rattle.ps_text.specs.Fronts.{IsFront}
use Rattle.ps_problem.specs.Problems.{Parts}
use Rattle.ps_problem.specs.Numbering.{problem_of}
use Rattle.ps_problem.specs.Counts.{counted}
use Rattle.ps_problem.specs.Written.{items_from}

-- the canonical text of the problem's items is a text up to its end, and what is read there passes no limit and makes the problem
pub record IsReread (p : Parts) : Type 0 where
  pub front : IsFront (canonical_text (items_from p)) (items_from p) (length (canonical_text (items_from p)))
  pub formulas : List (Formula Name)
  pub counts : counted (items_from p) ≡ Ok formulas
  pub made : problem_of (items_from p) ≡ p
