-- How far the literals of a learned clause have been set false.
use Rattle.std.specs.Prelude.{ℕ, ◌≡◌, ◌<◌, ◌≤◌, ℤ, neg_ℤ, true, Some, List, take, length, fold, slice_get, All, Contains}
use Rattle.ps_pb.specs.Assignments.{Assignment, value_of, all_unset, Includes}
use Rattle.ps_pb.specs.Steps.{and_false}
use Rattle.ps_learn.specs.Trails.{TrailEntry, Trail, IsLit, values_of}
use Rattle.ps_learn.specs.Causes.{Marks, is_marked}

-- the opposites of the kept ones among the first entries are the literals, and all of them have been set false
pub record Started (v : ℕ) (es : List TrailEntry) (kept : Marks) (i : ℕ) (lits : List ℤ) (a : Assignment) : Type 0 where
  pub lits_false : fold and_false (Some (all_unset v)) lits ≡ Some a
  pub includes : Includes (values_of v (take i es)) a
  pub kept_true : (j : ℕ) (e : TrailEntry) → j < i → slice_get es j ≡ Some e → is_marked kept e.lit ≡ true
      → value_of a e.lit ≡ Some true
  pub listed : (j : ℕ) (e : TrailEntry) → j < i → slice_get es j ≡ Some e → is_marked kept e.lit ≡ true
      → Contains lits (neg_ℤ e.lit)
  pub only_kept : (l : ℤ) → Contains lits (neg_ℤ l) → is_marked kept l ≡ true
  pub len : length a ≡ v
  pub few : length lits ≤ i
  pub literals : All (IsLit v) lits

-- the opposites of all kept entries are the literals, all of them set false
abbrev pub AreKeptLits : Trail → Marks → List ℤ → Assignment → Type 0
AreKeptLits t kept lits a = Started t.variables t.entries kept (length t.entries) lits a
