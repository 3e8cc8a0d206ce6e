-- Lists that are linked through one array.
use Rattle.std.specs.Prelude.{ℕ, zero, suc, ◌≡◌, ◌≢◌, ◌<◌, ◌≤◌, ◌==◌, if◌then◌else◌, List, [], ◌∷◌, length, slice_index_or, ◌⊎◌}
use Rattle.ps_sat.specs.declared.links.Links.{Links}
use Rattle.ps_sat.specs.declared.links.TheConstants.{END}

-- the numbers from one on, each of which names the next one, up to so many
abbrev pub walk : ℕ → List ℕ → ℕ → List ℕ
walk zero next h = []
walk (suc f) next h = if h == END then [] else h ∷ walk f next (slice_index_or next h END)

-- the first number of a list
abbrev pub head_at : List ℕ → ℕ → ℕ
head_at heads s = slice_index_or heads s END

-- the list at a place
unfoldable pub list_at : List ℕ → List ℕ → ℕ → List ℕ
list_at next heads s = walk (length next) next (head_at heads s)

-- a number stands in a list
abbrev pub Holds : ℕ → List ℕ → Type 0
Holds n [] = ⊥
Holds n (x ∷ xs) = (n ≡ x) ⊎ Holds n xs

-- each number stands once
abbrev pub IsOnce : List ℕ → Type 0
IsOnce [] = Unit {0}
IsOnce (x ∷ xs) = (¬ Holds x xs) × IsOnce xs

-- from a number on, these come one behind the other
abbrev pub IsChain : List ℕ → ℕ → List ℕ → Type 0
IsChain next h [] = h ≡ END
IsChain next h (n ∷ ns) = (h ≡ n) × (n < length next) × IsChain next (slice_index_or next n END) ns

-- each list ends, and no number stands twice
pub record AreLinked (next heads : List ℕ) : Type 0 where
  pub narrow : length next ≤ END
  pub ends : (s : ℕ) → IsChain next (head_at heads s) (list_at next heads s)
  pub once : (s : ℕ) → IsOnce (list_at next heads s)
  pub apart : (s t n : ℕ) → s ≢ t → Holds n (list_at next heads s) → Holds n (list_at next heads t) → ⊥

-- a number stands in no list
pub record IsFree (next heads : List ℕ) (n : ℕ) : Type 0 where
  pub at : (s : ℕ) → Holds n (list_at next heads s) → ⊥

-- the first number of a list was taken out
pub record IsPopped (next heads next' heads' : List ℕ) (slot n : ℕ) : Type 0 where
  pub linked : AreLinked next' heads'
  pub length_is : length next' ≡ length next
  pub slots_are : length heads' ≡ length heads
  pub first : list_at next heads slot ≡ n ∷ list_at next' heads' slot
  pub others : (t : ℕ) → t ≢ slot → list_at next' heads' t ≡ list_at next heads t
  pub within : n < length next
  pub free : IsFree next' heads' n

-- a number was put at the front of a list
pub record IsPushed (next heads next' heads' : List ℕ) (slot n : ℕ) : Type 0 where
  pub linked : AreLinked next' heads'
  pub length_is : length next' ≡ length next
  pub slots_are : length heads' ≡ length heads
  pub first : list_at next' heads' slot ≡ n ∷ list_at next heads slot
  pub others : (t : ℕ) → t ≢ slot → list_at next' heads' t ≡ list_at next heads t

-- a list became another one
pub record IsShifted (next heads next' heads' : List ℕ) (from to : ℕ) : Type 0 where
  pub linked : AreLinked next' heads'
  pub length_is : length next' ≡ length next
  pub slots_are : length heads' ≡ length heads
  pub moved : from ≢ to → list_at next' heads' to ≡ list_at next heads from
  pub emptied : list_at next' heads' from ≡ []
  pub others : (t : ℕ) → t ≢ from → t ≢ to → list_at next' heads' t ≡ list_at next heads t

-- there is one number more, which stands in no list
pub record IsGrown (next heads next' heads' : List ℕ) : Type 0 where
  pub linked : AreLinked next' heads'
  pub length_is : length next' ≡ suc (length next)
  pub slots_are : length heads' ≡ length heads
  pub lists : (t : ℕ) → list_at next' heads' t ≡ list_at next heads t
  pub free : IsFree next' heads' (length next)

-- links without the first number of a list
abbrev pub PopsFirst : Links → Links → ℕ → ℕ → Type 0
PopsFirst l l' slot n = IsPopped l.next.items l.heads.items l'.next.items l'.heads.items slot n

-- links with a number at the front of a list
abbrev pub PushesOne : Links → Links → ℕ → ℕ → Type 0
PushesOne l l' slot n = IsPushed l.next.items l.heads.items l'.next.items l'.heads.items slot n

-- links with a list at another place
abbrev pub ShiftsList : Links → Links → ℕ → ℕ → Type 0
ShiftsList l l' from to = IsShifted l.next.items l.heads.items l'.next.items l'.heads.items from to

-- links with one number more
abbrev pub AddsNumber : Links → Links → Type 0
AddsNumber l l' = IsGrown l.next.items l.heads.items l'.next.items l'.heads.items
