-- The limits of goals and steps.
use Rattle.std.specs.Prelude.{ℕ, ◌≤◌, All, length}
use Rattle.ps_pb.specs.Constraints.{Constraint}
use Rattle.ps_pb.specs.Steps.{Step}
use Rattle.ps_pb.specs.Weights.{weighted, IsNormal}
use Rattle.ps_pb.specs.Limits.{IsLiteral}
use Rattle.ps_pb.specs.declared.limits.TheConstants.{MOST_VARIABLES}
use Rattle.ps_log.specs.declared.limits.TheConstants.{MOST_HINTS}
use Rattle.ps_pb.specs.declared.limits.TheConstants.{MOST_IDS}

-- a number that names a constraint is within its limit
abbrev pub IsId : ℕ → Type 0
IsId id = (1 ≤ id) × (id ≤ MOST_IDS)

-- a step is within the limits
pub record IsStepWithin (s : Step) : Type 0 where
  pub id : IsId s.id
  pub lits : All IsLiteral s.lits
  pub hints : All IsId s.hints
  pub few_lits : length s.lits ≤ MOST_VARIABLES
  pub few_hints : length s.hints ≤ MOST_HINTS

-- a goal is within the limits
pub record IsGoalWithin (goal : Constraint) : Type 0 where
  pub normal : IsNormal (weighted goal.terms) goal.degree
  pub lits : All (λ t. IsLiteral t.0) (weighted goal.terms)
  pub few : length goal.terms ≤ MOST_VARIABLES
