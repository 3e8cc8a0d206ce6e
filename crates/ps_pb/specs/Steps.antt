-- The steps of a refutation, and when one is lawful.
use Rattle.std.specs.Prelude.{ℕ, zero, suc, ◌+◌, ◌==◌, nat_lt, ◌≡◌, ℤ, Bool, true, false, ◌&&◌}
use Rattle.std.specs.Prelude.{if◌then◌else◌, Option, Some, None, List, [], ◌∷◌, ◌++◌, length, map, slice_index_or, fold}
use Rattle.ps_pb.specs.declared.refused.StepRefused.{StepRefused}
use Rattle.ps_pb.specs.declared.refused.StepRefused.TheVariants.{IdNotNext, BadLit, UnknownHint, HintIdle, NoConflict}
use Rattle.ps_pb.specs.Assignments.{Assignment, place, value_of, with_false, is_unset, all_unset}
use Rattle.ps_pb.specs.Constraints.{Constraint, IsMet, slack, is_violated, some_forced, with_forced}
use Rattle.ps_pb.specs.Weights.{clause_of, IsWithin}

-- the constraints that are known, by id from 1 on, with none where one stands no longer
abbrev pub Known : Type 0
Known = List (Option Constraint)

-- the known constraint of an id, if there is one
unfoldable pub constraint_at : Known → ℕ → Option Constraint
constraint_at known zero = None
constraint_at known (suc i) = slice_index_or known i None

-- the id of the next constraint
abbrev pub next_id : Known → ℕ
next_id known = length known + 1

-- each constraint stands under its place plus 1
abbrev pub known_of : List Constraint → Known
known_of cs = map Some cs

-- the literals of each known constraint are of these variables
pub record AreWithin (variables : ℕ) (known : Known) : Type 0 where
  pub at : (id : ℕ) (c : Constraint) → constraint_at known id ≡ Some c → IsWithin variables c

-- a step: the literals of a clause, under an id, and the ids of the constraints from which it follows by propagation
pub record Step : Type 0 where
  pub id : ℕ
  pub lits : List ℤ
  pub hints : List ℕ

-- a step's id
abbrev pub id_of : Step → ℕ
id_of s = s.id

-- the literals of a step's clause
abbrev pub lits_of : Step → List ℤ
lits_of s = s.lits

-- a step's hints
abbrev pub hints_of : Step → List ℕ
hints_of s = s.hints

-- how far propagation along the hints has come: it goes on, has met a violated constraint, or was refused
pub data Propagation : Type 0 where
  Open : (a : Assignment) → Propagation
  Conflict : Propagation
  Refused : (why : StepRefused) → Propagation

-- a hint's constraint is violated, or sets what it forces, or is idle
abbrev pub at_constraint : ℕ → Assignment → Option Constraint → Propagation
at_constraint hint a None = Refused (UnknownHint hint)
at_constraint hint a (Some c) =
    if is_violated c a then Conflict
    else (if some_forced (slack c a) a c.terms then Open (with_forced (slack c a) c.terms a) else Refused (HintIdle hint))

-- after a violated constraint each hint is idle
abbrev pub after_conflict : ℕ → Option Constraint → Propagation
after_conflict hint None = Refused (UnknownHint hint)
after_conflict hint (Some c) = Refused (HintIdle hint)

-- propagation along one more hint; a refusal stays
unfoldable pub after_hint : Known → Propagation → ℕ → Propagation
after_hint known (Open a) hint = at_constraint hint a (constraint_at known hint)
after_hint known Conflict hint = after_conflict hint (constraint_at known hint)
after_hint known (Refused why) hint = Refused why

-- propagation along these hints, in order
abbrev pub after_hints : Known → Propagation → List ℕ → Propagation
after_hints known x hints = fold (after_hint known) x hints

-- one more literal set false, unless its variable is past the last or was set
abbrev pub and_false : Option Assignment → ℤ → Option Assignment
and_false None l = None
and_false (Some a) l = if nat_lt (place l) (length a) && is_unset (value_of a l) then Some (with_false a l) else None

-- all literals set false, or none where one of them is bad
unfoldable pub all_false : ℕ → List ℤ → Option Assignment
all_false variables lits = fold and_false (Some (all_unset variables)) lits

-- why propagation at its end shows nothing, or none where it has met a conflict
abbrev pub end_of : Propagation → Option StepRefused
end_of (Open a) = Some NoConflict
end_of Conflict = None
end_of (Refused why) = Some why

-- why propagation along the hints from an assignment shows nothing, if it shows nothing; without an assignment a literal is bad
abbrev pub from_start : Known → List ℕ → Option Assignment → Option StepRefused
from_start known hints None = Some BadLit
from_start known hints (Some a) = end_of (after_hints known (Open a) hints)

-- why a step isn't lawful after the known constraints, or none where it is: its id isn't the next one; a literal's variable is
-- past the last or stands twice; or, with all its literals set false, propagation along the hints finds no conflict
abbrev pub refusal_of : ℕ → Known → Step → Option StepRefused
refusal_of variables known s =
    if id_of s == next_id known then from_start known (hints_of s) (all_false variables (lits_of s)) else Some IdNotNext

-- the step is refused for no reason
abbrev pub IsLawful : ℕ → Known → Step → Type 0
IsLawful variables known s = refusal_of variables known s ≡ None

-- the constraint that a step adds
abbrev pub added : Step → Constraint
added s = clause_of (lits_of s)

-- the known constraints after a lawful step
abbrev pub with_step : Known → Step → Known
with_step known s = known ++ Some (added s) ∷ []

-- the known constraints after a list of lawful steps
abbrev pub with_steps : Known → List Step → Known
with_steps known ss = fold with_step known ss

-- whether a step adds a constraint that nothing meets: a clause without literals
abbrev pub is_contradiction : Step → Bool
is_contradiction s = length (lits_of s) == 0

-- each step is lawful after those before it
abbrev pub AreLawful : ℕ → Known → List Step → Type 0
AreLawful variables known [] = Unit {0}
AreLawful variables known (s ∷ ss) = IsLawful variables known s × AreLawful variables (with_step known s) ss

-- a refusal of this id, or else what comes later
abbrev pub or_later : ℕ → Option StepRefused → Option (ℕ × StepRefused) → Option (ℕ × StepRefused)
or_later id None later = later
or_later id (Some why) later = Some (id, why)

-- the id of the first step that isn't lawful after those before it, and why it isn't
abbrev pub first_refusal : ℕ → Known → List Step → Option (ℕ × StepRefused)
first_refusal variables known [] = None
first_refusal variables known (s ∷ ss) =
    or_later (id_of s) (refusal_of variables known s) (first_refusal variables (with_step known s) ss)

-- whether the last of some steps is a contradiction
abbrev pub ends_in_contradiction : List Step → Bool
ends_in_contradiction [] = false
ends_in_contradiction (s ∷ []) = is_contradiction s
ends_in_contradiction (s ∷ t ∷ ss) = ends_in_contradiction (t ∷ ss)

-- lawful steps, the last of which is a contradiction
pub record Refutes (variables : ℕ) (known : Known) (steps : List Step) : Type 0 where
  pub lawful : AreLawful variables known steps
  pub contradiction : ends_in_contradiction steps ≡ true

-- a full assignment meets each known constraint
pub record AreMet (w : List Bool) (known : Known) : Type 0 where
  pub at : (id : ℕ) (c : Constraint) → constraint_at known id ≡ Some c → IsMet w c

-- each full assignment that meets the first constraints meets the others
pub record Entails (known later : Known) : Type 0 where
  pub met : (w : List Bool) → AreMet w known → AreMet w later

-- no full assignment meets the known constraints
pub record IsUnmet (known : Known) : Type 0 where
  pub none : (w : List Bool) → ¬ AreMet w known
