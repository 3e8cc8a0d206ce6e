-- What constraints show that aren't watched, and how propagation ends.
use Rattle.std.specs.Prelude.{◌≡◌, ◌≤◌, ◌<◌, unsigned_abs, ℕ, ℤ, false, true}
use Rattle.std.specs.Prelude.{Option, Some, None, List, length, slice_index_or, ◌⊎◌}
use Rattle.ps_pb.specs.Assignments.{Assignment}
use Rattle.ps_pb.specs.Constraints.{Constraint, slack, is_violated, some_forced, Forces}
use Rattle.ps_pb.specs.Steps.{Known, constraint_at}
use Rattle.ps_learn.specs.Trails.{Trail, IsReason, IsFresh, IsConflict}
use Rattle.ps_clause.specs.Decided.{IsIdle}
use Rattle.ps_sat.specs.declared.scanning.State.{State}
use Rattle.ps_sat.specs.declared.scanning.State.TheVariants as state
use Rattle.ps_sat.specs.declared.scanning.Scan.{Scan}
use Rattle.ps_sat.specs.declared.scanning.Scan.TheVariants.{Violated, Forced, Idle}
use Rattle.ps_sat.specs.declared.visiting.Watches.{Watches}

-- the first literal that the constraint forces
abbrev pub FirstForced : Constraint → Assignment → Option ℤ → Type 0
FirstForced c a None = some_forced (slack c a) a c.terms ≡ false
FirstForced c a (Some l) = Forces c a l × (1 ≤ unsigned_abs l)

-- what one constraint shows
abbrev pub ScansOne : Constraint → Assignment → State → Type 0
ScansOne c a state.Violated = is_violated c a ≡ true
ScansOne c a (state.Forced l) = Forces c a l × (1 ≤ unsigned_abs l)
ScansOne c a state.Idle = IsIdle c a

-- the constraint of an id is idle
pub record IsIdleAt (known : Known) (a : Assignment) (id : ℕ) : Type 0 where
  pub at : (c : Constraint) → constraint_at known id ≡ Some c → IsIdle c a

-- what the constraint of an id shows
abbrev pub ScansAt : Known → Assignment → ℕ → Scan → Type 0
ScansAt known a id (Violated found) = IsConflict known a found
ScansAt known a id (Forced l found) = IsReason known a l (Some found) × IsFresh (length a) a l
ScansAt known a id Idle = IsIdleAt known a id

-- the first so many of these constraints are idle
pub record AreIdleTo (known : Known) (ids : List ℕ) (a : Assignment) (n : ℕ) : Type 0 where
  pub at : (i : ℕ) → i < n → IsIdleAt known a (slice_index_or ids i 0)

-- what the scan of these constraints finds
abbrev pub ScansThese : Known → List ℕ → Assignment → Scan → Type 0
ScansThese known ids a (Violated found) = IsConflict known a found
ScansThese known ids a (Forced l found) = IsReason known a l (Some found) × IsFresh (length a) a l
ScansThese known ids a Idle = AreIdleTo known ids a (length ids)

-- what the scan of these constraints and the goal finds
abbrev pub ScansAll : Known → List ℕ → ℕ → Assignment → Scan → Type 0
ScansAll known ids goal a (Violated found) = IsConflict known a found
ScansAll known ids goal a (Forced l found) = IsReason known a l (Some found) × IsFresh (length a) a l
ScansAll known ids goal a Idle = AreIdleTo known ids a (length ids) × IsIdleAt known a goal

-- a constraint is one of these
pub record IsOneOf (ids : List ℕ) (id : ℕ) : Type 0 where
  pub place : ℕ
  pub within : place < length ids
  pub there : slice_index_or ids place 0 ≡ id

-- the constraint of an id is watched, or one of those that are scanned
abbrev pub IsCoveredBy : Watches → List ℕ → ℕ → Type 0
IsCoveredBy w scanned id = IsOneOf w.ids.items id ⊎ IsOneOf scanned id

-- each constraint is watched, or is scanned, or waits, or is the goal
pub record AreCovered (known : Known) (w : Watches) (scanned waiting : List ℕ) (goal : ℕ) : Type 0 where
  pub at : (id : ℕ) (c : Constraint) → constraint_at known id ≡ Some c
      → IsCoveredBy w scanned id ⊎ (IsOneOf waiting id ⊎ (id ≡ goal))

-- where nothing is violated, all literals have been gone through
abbrev pub IsPropagatedTo : Trail → ℕ → Option ℕ → Type 0
IsPropagatedTo t n None = n ≡ length t.entries
IsPropagatedTo t n (Some id) = n ≤ length t.entries
