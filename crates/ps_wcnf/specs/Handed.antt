-- The form of a text as it is handed on.
use Rattle.std.specs.Prelude.{◌≡◌, ◌+◌, ◌<◌, ◌≤◌, ◌^◌, pos, ◌≤ℤ◌, All}
use Rattle.ps_pb.specs.Assignments.{place}
use Rattle.ps_pb.specs.Weights.{size_sum}
use Rattle.ps_wcnf.specs.Valued.{form_of, literals_of, base_of}
use Rattle.ps_wcnf.specs.declared.text.WcnfText.{WcnfText}
use Rattle.ps_wcnf.specs.declared.valued.ValuedForm.{ValuedForm}

-- clauses, weighted literals and base are those of a text
pub record IsFormOf (t : WcnfText) (f : ValuedForm) : Type 0 where
  pub clauses : f.clauses ≡ form_of t
  pub literals : f.literals ≡ literals_of t
  pub base : f.base ≡ base_of t

-- the literals are of the clauses' variables, and their weights and the base are small
pub record IsSmallForm (f : ValuedForm) : Type 0 where
  pub within : All (λ t. place t.0 < f.clauses.variables) f.literals
  pub sizes : size_sum f.literals ≤ 2 ^ 90
  pub low : pos 1 ≤ℤ f.base
  pub high : f.base ≤ℤ pos (2 ^ 90 + 1)
