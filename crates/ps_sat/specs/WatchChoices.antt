-- Which two literals of a clause may be watched.
use Rattle.std.specs.Prelude.{ℕ, ◌≡◌, ◌≢◌, ℤ, Bool, true, false, Some, None, List, [], ◌∷◌, if◌then◌else◌, unsigned_abs}
use Rattle.ps_pb.specs.Assignments.{Assignment, value_of}
use Rattle.ps_pb.specs.Constraints.{Constraint, HasTerm, Forces, is_open, is_violated}
use Rattle.ps_pb.specs.Weights.{IsPlain}
use Rattle.ps_pb.specs.Steps.{Known, constraint_at}
use Rattle.ps_learn.specs.Trails.{Trail, values, level, IsConflict}
use Rattle.ps_learn.specs.Lookups.{level_of}
use Rattle.ps_sat.specs.declared.choosing.Choice.{Choice}
use Rattle.ps_sat.specs.declared.choosing.Choice.TheVariants.{Open, Last, Violated, Unwatched}

-- whether one of the terms is of a literal that isn't false
abbrev pub some_open : Assignment → List (ℤ × ℕ) → Bool
some_open a [] = false
some_open a (t ∷ ts) = if is_open a t.0 then true else some_open a ts

-- a literal of the constraint that isn't false
pub record IsOpenIn (c : Constraint) (a : Assignment) (l : ℤ) : Type 0 where
  pub coefficient : ℕ
  pub term : HasTerm l coefficient c.terms
  pub open_is : is_open a l ≡ true

-- a literal is false, and its variable was set on the last level
pub record IsFalseAtTop (t : Trail) (l : ℤ) : Type 0 where
  pub false_is : value_of (values t) l ≡ Some false
  pub level_is : level_of (unsigned_abs l) t ≡ Some (level t)

-- such a literal of the constraint
pub record IsFalseIn (c : Constraint) (t : Trail) (l : ℤ) : Type 0 where
  pub coefficient : ℕ
  pub term : HasTerm l coefficient c.terms
  pub at_top : IsFalseAtTop t l

-- two different literals of a clause
pub record AreTwoOf (c : Constraint) (first second : ℤ) : Type 0 where
  pub plain : IsPlain c
  pub first_term : HasTerm first 1 c.terms
  pub second_term : HasTerm second 1 c.terms
  pub differ : first ≢ second

-- neither of the two is false
pub record AreOpen (c : Constraint) (t : Trail) (first second : ℤ) : Type 0 where
  pub two : AreTwoOf c first second
  pub first_open : is_open (values t) first ≡ true
  pub second_open : is_open (values t) second ≡ true

-- the first isn't false, and is forced where it is unset; the second is false since the last level was opened
pub record AreLast (c : Constraint) (t : Trail) (first second : ℤ) : Type 0 where
  pub two : AreTwoOf c first second
  pub first_open : is_open (values t) first ≡ true
  pub forces : value_of (values t) first ≡ None → Forces c (values t) first
  pub second_false : IsFalseAtTop t second

-- the two may be watched, or all literals are false
abbrev pub ChoosesIn : Constraint → Trail → Choice → Type 0
ChoosesIn c t (Open first second) = AreOpen c t first second
ChoosesIn c t (Last first second) = AreLast c t first second
ChoosesIn c t Violated = is_violated c (values t) ≡ true
ChoosesIn c t Unwatched = Unit {0}

-- they are of the constraint of this id
abbrev pub Chooses : Known → ℕ → Trail → Choice → Type 0
Chooses known id t (Open first second) = (c : Constraint) × (constraint_at known id ≡ Some c) × AreOpen c t first second
Chooses known id t (Last first second) = (c : Constraint) × (constraint_at known id ≡ Some c) × AreLast c t first second
Chooses known id t Violated = IsConflict known (values t) id
Chooses known id t Unwatched = Unit {0}
