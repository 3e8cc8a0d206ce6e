-- Room that is kept for watches.
use Rattle.std.specs.Prelude.{ℕ, ◌+◌, ◌*◌, ◌≡◌, ◌≤◌, length, vec_capacity}
use Rattle.ps_sat.specs.declared.visiting.Watches.{Watches}

-- for how many watches there is room in all
abbrev pub room_of : Watches → ℕ × ℕ × ℕ × ℕ
room_of w = (vec_capacity w.links.next, vec_capacity w.lits, vec_capacity w.others, vec_capacity w.ids)

-- there is room for so many watches
pub record HasRoomFor (w : Watches) (n : ℕ) : Type 0 where
  pub next : n ≤ vec_capacity w.links.next
  pub lits : n ≤ vec_capacity w.lits
  pub others : n ≤ vec_capacity w.others
  pub ids : n ≤ vec_capacity w.ids

-- there is room for the two watches of so many clauses more
abbrev pub HasRoomForClauses : Watches → ℕ → Type 0
HasRoomForClauses w n = HasRoomFor w (length w.lits.items + n * 2)

-- there is no less room
pub record GrowsRoom (w w' : Watches) : Type 0 where
  pub at : (n : ℕ) → HasRoomFor w n → HasRoomFor w' n

-- nothing but the room is another
pub record IsSameBut (w w' : Watches) : Type 0 where
  pub next : w'.links.next.items ≡ w.links.next.items
  pub heads : w'.links.heads.items ≡ w.links.heads.items
  pub lits : w'.lits.items ≡ w.lits.items
  pub others : w'.others.items ≡ w.others.items
  pub ids : w'.ids.items ≡ w.ids.items
