-- Where propagation ends.
use Rattle.std.specs.Prelude.{ℕ, ◌≡◌, Option, Some, None, List, ◌++◌}
use Rattle.ps_pb.specs.Assignments.{Assignment}
use Rattle.ps_pb.specs.Constraints.{Constraint}
use Rattle.ps_pb.specs.Steps.{Known, constraint_at}
use Rattle.ps_learn.specs.Trails.{TrailEntry, IsConflict}
use Rattle.ps_clause.specs.Forms.{Form}
use Rattle.ps_clause.specs.Decided.{IsIdle, AtomsAreSet}

-- no known constraint is violated or forces a literal
pub record IsAtRest (known : Known) (a : Assignment) : Type 0 where
  pub at : (id : ℕ) (c : Constraint) → constraint_at known id ≡ Some c → IsIdle c a

-- where propagation ends: at a violated constraint, or at rest
abbrev pub IsPropagated : Known → Assignment → Option ℕ → Type 0
IsPropagated known a None = IsAtRest known a
IsPropagated known a (Some id) = IsConflict known a id

-- the literals that were set stay, and others come after them
pub record IsLonger (old new : List TrailEntry) : Type 0 where
  pub more : List TrailEntry
  pub is : new ≡ old ++ more

-- propagation is at its end, and each atom has a value
pub record IsDone (form : Form) (known : Known) (a : Assignment) : Type 0 where
  pub at_rest : IsAtRest known a
  pub atoms : AtomsAreSet form a

-- where a search stops: at a violated constraint, or where it is done
abbrev pub IsAdvanced : Form → Known → Assignment → Option ℕ → Type 0
IsAdvanced form known a None = IsDone form known a
IsAdvanced form known a (Some id) = IsConflict known a id
