-- Trails: literals in the order in which they were set, each decided or implied by a known constraint.
use Rattle.std.specs.Prelude.{ℕ, zero, suc, ◌+◌, ◌<◌, ◌≤◌, ◌≡◌, ◌^◌, ◌==◌, nat_le, ℤ, true, if◌then◌else◌}
use Rattle.std.specs.Prelude.{Option, Some, None, is_none, List, [], ◌∷◌, ◌++◌, take, fold, slice_get, unsigned_abs}
use Rattle.std.specs.List.{filter}
use Rattle.ps_pb.specs.Assignments.{Assignment, place, value_of, with_true, is_unset, all_unset}
pub use Rattle.ps_pb.specs.Assignments.{unset_count}
use Rattle.ps_pb.specs.Constraints.{Constraint, is_violated, Forces}
use Rattle.ps_pb.specs.Steps.{Known, constraint_at}

-- a literal that was set, the id of the constraint that forced it, or none where it was decided, and its level
pub record TrailEntry : Type 0 where
  pub lit : ℤ
  pub reason : Option ℕ
  pub level : ℕ

-- the literals that were set, in this order, over so many variables
pub record Trail : Type 0 where
  pub variables : ℕ
  pub entries : List TrailEntry

-- the values with one more literal set true
abbrev pub and_entry : Assignment → TrailEntry → Assignment
and_entry a e = with_true a e.lit

-- the values of the variables after these entries
unfoldable pub values_of : ℕ → List TrailEntry → Assignment
values_of variables es = fold and_entry (all_unset variables) es

-- the values of the variables
abbrev pub values : Trail → Assignment
values t = values_of t.variables t.entries

-- how many of the literals were decided
abbrev pub decisions : List TrailEntry → ℕ
decisions [] = 0
decisions (e ∷ es) = (if is_none e.reason then 1 else 0) + decisions es

-- the level of a trail: how many of its literals were decided
abbrev pub level : Trail → ℕ
level t = decisions t.entries

-- one literal more, decided: it opens a level
abbrev pub decided : ℤ → Trail → Trail
decided l t = record {
  variables = t.variables;
  entries = t.entries ++ record { lit = l; reason = None; level = suc (decisions t.entries) } ∷ [];
}

-- one literal more, implied by the constraint of this id: it stays in the level
abbrev pub implied : ℤ → ℕ → Trail → Trail
implied l id t = record {
  variables = t.variables;
  entries = t.entries ++ record { lit = l; reason = Some id; level = decisions t.entries } ∷ [];
}

-- what stands at a level or below it
abbrev pub up_to : ℕ → Trail → Trail
up_to n t = record { variables = t.variables; entries = filter (λ e. nat_le e.level n) t.entries }

-- the entry of a variable, by its number
abbrev pub entry_of : ℕ → List TrailEntry → Option TrailEntry
entry_of var [] = None
entry_of var (e ∷ es) = if unsigned_abs e.lit == var then Some e else entry_of var es

-- a binary number with one digit per variable: 1 where the place holds an implied literal, 0 where it holds a decided one or
-- none, the first place highest
abbrev pub rank : ℕ → List TrailEntry → ℕ
rank variables [] = 0
rank zero (e ∷ es) = 0
rank (suc n) (e ∷ es) = (if is_none e.reason then 0 else 2 ^ n) + rank n es

-- a literal of one of so many variables
abbrev pub IsLit : ℕ → ℤ → Type 0
IsLit v l = (1 ≤ unsigned_abs l) × (unsigned_abs l ≤ v)

-- the literal is one of a variable that isn't set
pub record IsFresh (variables : ℕ) (a : Assignment) (l : ℤ) : Type 0 where
  pub some : 1 ≤ unsigned_abs l
  pub within : place l < variables
  pub unset : is_unset (value_of a l) ≡ true

-- each literal was of an unset variable when it was set
pub record AreFresh (variables : ℕ) (es : List TrailEntry) : Type 0 where
  pub at : (i : ℕ) (e : TrailEntry) → slice_get es i ≡ Some e → IsFresh variables (values_of variables (take i es)) e.lit

-- each literal stands at the level of the last decided one up to it
pub record AreLevels (es : List TrailEntry) : Type 0 where
  pub at : (i : ℕ) (e : TrailEntry) → slice_get es i ≡ Some e → e.level ≡ decisions (take (suc i) es)

-- a reason of a literal: the constraint forces it; a decided literal needs none
abbrev pub IsReason : Known → Assignment → ℤ → Option ℕ → Type 0
IsReason known a l None = Unit {0}
IsReason known a l (Some id) = (c : Constraint) × (constraint_at known id ≡ Some c) × Forces c a l

-- each implied literal was forced by its reason when it was set
pub record AreReasons (variables : ℕ) (known : Known) (es : List TrailEntry) : Type 0 where
  pub at : (i : ℕ) (e : TrailEntry) → slice_get es i ≡ Some e → IsReason known (values_of variables (take i es)) e.lit e.reason

-- a known constraint is violated
pub record IsConflict (known : Known) (a : Assignment) (id : ℕ) : Type 0 where
  pub constraint : Constraint
  pub known_at : constraint_at known id ≡ Some constraint
  pub violated : is_violated constraint a ≡ true
