-- What the laws of the numbering of items and of canonical texts say.
use Rattle.std.specs.Prelude.{◌≡◌, List}
use Rattle.ps_meaning.specs.Statements.{Item}
use Rattle.ps_problem.specs.Problems.{Parts, bounds_of}
use Rattle.ps_problem.specs.Numbering.{problem_of, stated_by, queries_of, asked_by}
use Rattle.ps_problem.specs.Soundness.{IsProblem}
use Rattle.ps_problem.specs.Rereading.{IsReread}

-- the bounds of a problem of items are those of their statements, with each name replaced by its number
abbrev pub BoundsAreStated : Type 0
BoundsAreStated = (items : List Item) → bounds_of (problem_of items) ≡ stated_by items

-- the queries of a problem of items are their questions, with each name replaced by its number
abbrev pub QueriesAreAsked : Type 0
QueriesAreAsked = (items : List Item) → queries_of (problem_of items) ≡ asked_by items

-- the canonical text of each problem is read as the problem
abbrev pub CanonicalTextsAreReread : Type 0
CanonicalTextsAreReread = (p : Parts) → IsProblem p → IsReread p
