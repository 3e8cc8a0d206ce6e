-- Which entries are kept on the way back over a trail.
use Rattle.std.specs.Prelude.{ℕ, ◌≡◌, ◌≤◌, ◌<◌, Bool, true, false, Some, None, List, slice_get, slice_set, ◌⊎◌}
use Rattle.ps_pb.specs.Assignments.{place}
use Rattle.ps_pb.specs.Steps.{Known, constraint_at}
use Rattle.ps_learn.specs.Trails.{TrailEntry, Trail, level}
use Rattle.ps_learn.specs.Causes.{Marks, is_marked}

-- one entry of the last level at most is kept, and none of level 0
pub record IsKeptOnce (t : Trail) (kept : Marks) : Type 0 where
  pub above : (j : ℕ) (e : TrailEntry) → slice_get t.entries j ≡ Some e → is_marked kept e.lit ≡ true → 1 ≤ e.level
  pub one : (j k : ℕ) (e d : TrailEntry) → k < j → slice_get t.entries j ≡ Some e → slice_get t.entries k ≡ Some d
      → e.level ≡ level t → d.level ≡ level t → is_marked kept e.lit ≡ true → is_marked kept d.lit ≡ false

-- no entry of this level before a place is marked
pub record NoneIsMarked (level : ℕ) (es : List TrailEntry) (marks : Marks) (i : ℕ) : Type 0 where
  pub at : (k : ℕ) (d : TrailEntry) → k < i → slice_get es k ≡ Some d → d.level ≡ level → is_marked marks d.lit ≡ false

-- a marked entry of this level stands before a place
pub record SomeIsMarked (level : ℕ) (es : List TrailEntry) (marks : Marks) (i : ℕ) : Type 0 where
  pub place : ℕ
  pub entry : TrailEntry
  pub before : place < i
  pub there : slice_get es place ≡ Some entry
  pub level_is : entry.level ≡ level
  pub marked : is_marked marks entry.lit ≡ true

-- an entry is to be explained at level 0, or at the last level after a marked entry of it; else it is to be kept, and at the
-- last level no entry of it before this one is marked
abbrev pub IsToExplain : ℕ → List TrailEntry → Marks → ℕ → TrailEntry → Bool → Type 0
IsToExplain top es marks i e true = (e.level ≡ 0) ⊎ ((e.level ≡ top) × SomeIsMarked top es marks i)
IsToExplain top es marks i e false = (1 ≤ e.level) × (e.level ≡ top → NoneIsMarked top es marks i)

-- an entry was decided, or its reason isn't known
abbrev pub HasNoReason : Known → TrailEntry → Type 0
HasNoReason known e = (id : ℕ) → e.reason ≡ Some id → constraint_at known id ≡ None

-- what is marked, and what is kept of it
abbrev pub Marking : Type 0
Marking = Marks × Marks

-- what is marked
abbrev pub marked_in : Marking → Marks
marked_in m = m.0

-- what is kept of it
abbrev pub kept_in : Marking → Marks
kept_in m = m.1

-- a marked entry is kept where it wasn't to be explained or has no reason; else nothing more is kept, and marks are added only
-- where the entry is marked
abbrev pub IsKeptOrNot : Known → TrailEntry → Bool → Marking → Marking → Type 0
IsKeptOrNot known e explained (marks, kept) (marks', kept') =
    ((kept' ≡ kept) × ((marks' ≡ marks) ⊎ (is_marked marks e.lit ≡ true)))
    ⊎ ((kept' ≡ slice_set kept (place e.lit) true) × (marks' ≡ marks) × (is_marked marks e.lit ≡ true)
    × ((explained ≡ false) ⊎ HasNoReason known e))
