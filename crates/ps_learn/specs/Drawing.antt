-- How a clause is learned.
use Rattle.std.specs.Prelude.{ℕ, suc, ◌≡◌, ◌≢◌, ◌≤◌, ◌∷◌, [], ◌++◌, neg_ℤ, Bool, true, false, Some, None, List, length, All}
use Rattle.ps_pb.specs.Assignments.{Assignment, value_of, with_false}
use Rattle.ps_pb.specs.Constraints.{Constraint}
use Rattle.ps_pb.specs.Weights.{weighted, IsNormal}
use Rattle.ps_pb.specs.Steps.{Known, known_of, constraint_at, after_hints, Open, Conflict}
use Rattle.ps_learn.specs.Trails.{TrailEntry}
use Rattle.ps_learn.specs.Causes.{Marks, is_marked}
use Rattle.ps_learn.specs.Known.{IsIdUpTo}
use Rattle.ps_pb.specs.Effects.{Propagates}
use Rattle.ps_pb.specs.declared.propagation.Effect.{Effect}
use Rattle.ps_learn.specs.declared.learning.Kept.{Kept}
use Rattle.ps_learn.specs.declared.learning.Followed.{Followed}
use Rattle.ps_learn.specs.declared.learning.Followed.TheVariants.{Unmarked, AlreadyTrue, Decided, Unknown, Propagated}

-- where the test holds, the opposite of an entry's literal is added, with its level, and set false; else nothing changes
abbrev pub AddsIf : Bool → TrailEntry → Kept → Assignment → Kept → Assignment → Type 0
AddsIf false e k a k' a' = (k' ≡ k) × (a' ≡ a)
AddsIf true e k a k' a' =
    (k'.lits ≡ k.lits ++ neg_ℤ e.lit ∷ []) × (k'.last ≡ e.level) × (k'.next ≡ k.last) × (a' ≡ with_false a (neg_ℤ e.lit))

-- the opposite of a kept literal is added, and set false; for another entry nothing changes
abbrev pub AddsKept : TrailEntry → Marks → Kept → Assignment → Kept → Assignment → Type 0
AddsKept e marks k a k' a' = AddsIf (is_marked marks e.lit) e k a k' a'

-- the hints of a walk along reasons, and the values after propagation along them
abbrev pub Walk : Type 0
Walk = List ℕ × Assignment

-- the hints of a walk
abbrev pub walk_hints : Walk → List ℕ
walk_hints w = w.0

-- the values after it
abbrev pub walk_values : Walk → Assignment
walk_values w = w.1

-- propagation went along the reason of an entry whose literal isn't true, with this effect
pub record FollowsBy (f : Effect) (known : Known) (e : TrailEntry) (old new : Walk) : Type 0 where
  pub other : value_of (walk_values old) e.lit ≢ Some true
  pub id : ℕ
  pub reason : e.reason ≡ Some id
  pub constraint : Constraint
  pub known_at : constraint_at known id ≡ Some constraint
  pub normal : IsNormal (weighted constraint.terms) constraint.degree
  pub hints_are : walk_hints new ≡ walk_hints old ++ id ∷ []
  pub does : Propagates constraint (walk_values old) (walk_values new) f

-- how an entry is passed: it isn't marked, is true already, or has no known reason; or its reason is gone along
abbrev pub Passes : List Constraint → TrailEntry → Marks → Walk → Walk → Followed → Type 0
Passes cs e marks (hints, a) (hints', a') Unmarked = (is_marked marks e.lit ≡ false) × (hints' ≡ hints) × (a' ≡ a)
Passes cs e marks (hints, a) (hints', a') AlreadyTrue = (value_of a e.lit ≡ Some true) × (hints' ≡ hints) × (a' ≡ a)
Passes cs e marks (hints, a) new Decided =
    (is_marked marks e.lit ≡ true) × (value_of a e.lit ≢ Some true) × (e.reason ≡ None)
Passes cs e marks old new Unknown =
    (is_marked marks e.lit ≡ true) × ((id : ℕ) × (e.reason ≡ Some id) × (constraint_at (known_of cs) id ≡ None))
Passes cs e marks old new (Propagated f) = (is_marked marks e.lit ≡ true) × FollowsBy f (known_of cs) e old new

-- propagation along the hints ends in a conflict, and they are few
pub record EndsInConflict (known : Known) (start : Assignment) (most : ℕ) (hints : List ℕ) : Type 0 where
  pub ends : after_hints known (Open start) hints ≡ Conflict
  pub few : length hints ≤ suc most
  pub known_ids : All (IsIdUpTo (length known)) hints
