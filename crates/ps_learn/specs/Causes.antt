-- Which entries of a trail are causes of a conflict.
use Rattle.std.specs.Prelude.{ℕ, ◌≡◌, ◌≤◌, ℤ, neg_ℤ, Bool, true, false}
use Rattle.std.specs.Prelude.{Some, List, take, slice_get, slice_index_or, Contains, ◌⊎◌}
use Rattle.ps_pb.specs.Assignments.{Assignment, place, value_of}
use Rattle.ps_pb.specs.Constraints.{Constraint, HasTerm}
use Rattle.ps_pb.specs.Steps.{Known, constraint_at}
use Rattle.ps_learn.specs.Trails.{TrailEntry, Trail, values, values_of}

-- marks of variables, by place
abbrev pub Marks : Type 0
Marks = List Bool

-- whether a literal's variable is marked; past the end none is
abbrev pub is_marked : Marks → ℤ → Bool
is_marked marks l = slice_index_or marks (place l) false

-- the constraint's false literals are marked
pub record AreCovered (c : Constraint) (a : Assignment) (marks : Marks) : Type 0 where
  pub at : (l : ℤ) (k : ℕ) → HasTerm l k c.terms → value_of a l ≡ Some false → is_marked marks l ≡ true

-- the false literals of the constraint of this id are marked
abbrev pub IsCoveredAt : Known → ℕ → Assignment → Marks → Type 0
IsCoveredAt known id a marks = (c : Constraint) → constraint_at known id ≡ Some c → AreCovered c a marks

-- the reason's false literals are marked
pub record IsExplained (known : Known) (a : Assignment) (marks : Marks) (e : TrailEntry) : Type 0 where
  pub id : ℕ
  pub constraint : Constraint
  pub reason : e.reason ≡ Some id
  pub known_at : constraint_at known id ≡ Some constraint
  pub covered : AreCovered constraint a marks

-- from place i on, each marked entry is kept or explained by marked ones
pub record AreExplained (variables : ℕ) (known : Known) (es : List TrailEntry) (marks kept : Marks) (i : ℕ) : Type 0 where
  pub at : (j : ℕ) (e : TrailEntry) → i ≤ j → slice_get es j ≡ Some e → is_marked marks e.lit ≡ true
      → (is_marked kept e.lit ≡ true) ⊎ IsExplained known (values_of variables (take j es)) marks e

-- a literal is of the variable of one of these terms' literals that is false
pub record IsFalseIn (terms : List (ℤ × ℕ)) (a : Assignment) (l : ℤ) : Type 0 where
  pub lit : ℤ
  pub coefficient : ℕ
  pub term : HasTerm lit coefficient terms
  pub false_is : value_of a lit ≡ Some false
  pub same_variable : place l ≡ place lit

-- a literal is of the variable of a false literal of the constraint of this id
pub record IsFalseAt (known : Known) (id : ℕ) (a : Assignment) (l : ℤ) : Type 0 where
  pub constraint : Constraint
  pub known_at : constraint_at known id ≡ Some constraint
  pub false_in : IsFalseIn constraint.terms a l

-- a literal is of the variable of a false literal of the reason of a marked entry that isn't kept
pub record IsFalseInReason (variables : ℕ) (known : Known) (es : List TrailEntry) (marks : Marks)
    (IsKept : ℤ → Type 0) (l : ℤ) : Type 0 where
  pub at : ℕ
  pub entry : TrailEntry
  pub there : slice_get es at ≡ Some entry
  pub marked : is_marked marks entry.lit ≡ true
  pub unkept : ¬ IsKept entry.lit
  pub id : ℕ
  pub reason : entry.reason ≡ Some id
  pub false_at : IsFalseAt known id (values_of variables (take at es)) l

-- the causes of a conflict are marked back to a clause: the conflict's false literals, and for each marked entry of the trail
-- its opposite is in the clause, or the false literals of its reason are marked; and nothing else is marked than false literals
-- of the conflict, and of the reasons of marked entries whose opposites aren't in the clause
pub record HasMarkedCauses (known : Known) (t : Trail) (conflict : ℕ) (clause : List ℤ) (marks : Marks) : Type 0 where
  pub conflict_is_marked : IsCoveredAt known conflict (values t) marks
  pub explained : (i : ℕ) (e : TrailEntry) → slice_get t.entries i ≡ Some e → is_marked marks e.lit ≡ true
      → Contains clause (neg_ℤ e.lit) ⊎ IsExplained known (values_of t.variables (take i t.entries)) marks e
  pub only : (l : ℤ) → is_marked marks l ≡ true
      → IsFalseAt known conflict (values t) l
      ⊎ IsFalseInReason t.variables known t.entries marks (λ m. Contains clause (neg_ℤ m)) l
