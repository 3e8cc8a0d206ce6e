-- Marking causes.
use Rattle.std.specs.Prelude.{ℕ, ◌≡◌, ℤ, Bool, true, false, Option, Some, None, List, take, length, slice_get, slice_set, ◌⊎◌}
use Rattle.ps_pb.specs.Assignments.{Assignment, place, value_of}
use Rattle.ps_pb.specs.Constraints.{Constraint}
use Rattle.ps_pb.specs.Steps.{Known, known_of}
use Rattle.ps_learn.specs.Trails.{TrailEntry, Trail, values, values_of, level}
use Rattle.ps_learn.specs.Causes.{Marks, is_marked, IsCoveredAt, IsExplained, AreExplained, IsFalseAt, IsFalseInReason}
use Rattle.ps_learn.specs.Marking.{Grows, AddsReason, AddsReasons}
use Rattle.ps_learn.specs.Keeping.{IsKeptOnce, IsToExplain, Marking, marked_in, kept_in, IsKeptOrNot}
use Rattle.ps_learn.specs.Keeping.{SomeIsMarked, NoneIsMarked}
use Rattle.ps_learn.specs.declared.explaining.Causes.{Causes}

-- the variable of a false literal is marked
abbrev pub MarksCause : Option Bool → ℤ → Marks → Marks → Type 0
MarksCause (Some false) l old new = new ≡ slice_set old (place l) true
MarksCause (Some true) l old new = new ≡ old
MarksCause None l old new = new ≡ old

-- whether an entry of the trail's level is marked before a place
abbrev pub IsMarkedBefore : Trail → Marks → ℕ → Bool → Type 0
IsMarkedBefore t marks i true = SomeIsMarked (level t) t.entries marks i
IsMarkedBefore t marks i false = NoneIsMarked (level t) t.entries marks i

-- an entry that is marked is kept or explained; what was marked or kept stays so, and what is marked more is
-- of a false literal of its reason
pub record Explains (cs : List Constraint) (e : TrailEntry) (asked : Bool) (before : Assignment)
    (old new : Marking) : Type 0 where
  pub grows : Grows (marked_in new) (marked_in old)
  pub only : AddsReason (known_of cs) e before (marked_in new) (marked_in old)
  pub keeps : Grows (kept_in new) (kept_in old)
  pub len : length (marked_in new) ≡ length (marked_in old)
  pub kept_len : length (kept_in new) ≡ length (kept_in old)
  pub own : is_marked (marked_in old) e.lit ≡ true
      → (is_marked (kept_in new) e.lit ≡ true) ⊎ IsExplained (known_of cs) before (marked_in new) e
  pub kept_is : IsKeptOrNot (known_of cs) e asked old new

-- an entry that is marked is kept or explained, and kept only where it isn't to be explained or has no known reason
pub record ExplainsAt (cs : List Constraint) (t : Trail) (i : ℕ) (e : TrailEntry) (old new : Marking) : Type 0 where
  pub asked : Bool
  pub test : is_marked (marked_in old) e.lit ≡ true → IsToExplain (level t) t.entries (marked_in old) i e asked
  pub done : Explains cs e asked (values_of t.variables (take i t.entries)) old new

-- each marked entry of the trail is kept or explained by marked ones
abbrev pub IsTrailExplained : Known → Trail → Marks → Marks → Type 0
IsTrailExplained known t marks kept = AreExplained t.variables known t.entries marks kept 0

-- what is marked more is of a false literal of the reason of a marked entry of the trail that isn't kept
abbrev pub AddsTrailReasons : Known → Trail → Marks → Marks → Marks → Type 0
AddsTrailReasons known t kept new old = AddsReasons t.variables known t.entries kept new old

-- the causes of a conflict are marked and nothing else is, each is kept or explained by marked ones, and one of the
-- last level at most is kept
pub record IsCaused (known : Known) (t : Trail) (conflict : ℕ) (marks kept : Marks) : Type 0 where
  pub explained : IsTrailExplained known t marks kept
  pub covered : IsCoveredAt known conflict (values t) marks
  pub once : IsKeptOnce t kept
  pub only : (l : ℤ) → is_marked marks l ≡ true
      → IsFalseAt known conflict (values t) l
      ⊎ IsFalseInReason t.variables known t.entries marks (λ m. is_marked kept m ≡ true) l

-- a conflict is reached from the true literals along reasons: its false literals are marked, and each marked entry of the trail
-- is true, or the false literals of its reason are marked
pub record IsReached (known : Known) (t : Trail) (conflict : ℕ) (marks : Marks) (a : Assignment) : Type 0 where
  pub covered : IsCoveredAt known conflict (values t) marks
  pub explained : (i : ℕ) (e : TrailEntry) → slice_get t.entries i ≡ Some e → is_marked marks e.lit ≡ true
      → (value_of a e.lit ≡ Some true) ⊎ IsExplained known (values_of t.variables (take i t.entries)) marks e

-- these are the causes of a conflict
abbrev pub AreCauses : Known → Trail → ℕ → Causes → Type 0
AreCauses known t conflict causes = IsCaused known t conflict causes.marks.items causes.kept.items
