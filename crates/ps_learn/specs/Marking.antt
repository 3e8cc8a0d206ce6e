-- How marks change while causes are marked.
use Rattle.std.specs.Prelude.{ℕ, ◌≡◌, ℤ, true, false, Some, List, ◌⊎◌}
use Rattle.ps_pb.specs.Assignments.{Assignment, value_of, is_unset}
use Rattle.ps_pb.specs.Steps.{Known}
use Rattle.ps_learn.specs.Trails.{TrailEntry}
use Rattle.ps_learn.specs.Causes.{Marks, is_marked, IsFalseIn, IsFalseAt, IsFalseInReason}

-- what is marked in the second is marked in the first
pub record Grows (new old : Marks) : Type 0 where
  pub at : (l : ℤ) → is_marked old l ≡ true → is_marked new l ≡ true

-- what is marked more was set
pub record AreSetIn (a : Assignment) (new old : Marks) : Type 0 where
  pub at : (l : ℤ) → is_marked new l ≡ true → (is_marked old l ≡ true) ⊎ (is_unset (value_of a l) ≡ false)

-- what is marked more is of a false literal of these terms
pub record AddsFalseIn (terms : List (ℤ × ℕ)) (a : Assignment) (new old : Marks) : Type 0 where
  pub at : (l : ℤ) → is_marked new l ≡ true → (is_marked old l ≡ true) ⊎ IsFalseIn terms a l

-- what is marked more is of a false literal of the constraint of this id
pub record AddsFalseAt (known : Known) (id : ℕ) (a : Assignment) (new old : Marks) : Type 0 where
  pub at : (l : ℤ) → is_marked new l ≡ true → (is_marked old l ≡ true) ⊎ IsFalseAt known id a l

-- what is marked more is of a false literal of the reason of a marked entry that isn't kept
pub record AddsReasons (variables : ℕ) (known : Known) (es : List TrailEntry) (kept new old : Marks) : Type 0 where
  pub at : (l : ℤ) → is_marked new l ≡ true
      → (is_marked old l ≡ true) ⊎ IsFalseInReason variables known es new (λ m. is_marked kept m ≡ true) l

-- where more is marked, the entry is marked, and what is marked more is of a false literal of its reason
pub record AddsReason (known : Known) (e : TrailEntry) (a : Assignment) (new old : Marks) : Type 0 where
  pub at : (l : ℤ) → is_marked new l ≡ true
      → (is_marked old l ≡ true) ⊎ ((is_marked old e.lit ≡ true)
      × ((id : ℕ) × (e.reason ≡ Some id) × IsFalseAt known id a l))
