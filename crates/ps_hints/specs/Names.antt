-- Names that are close to one another.
use Rattle.std.specs.Prelude.{◌≡◌, ◌≤◌, ℕ, List, Some, length, slice_get}
use Rattle.std.specs.Str.{chars}
use Rattle.strsim.specs.Edits.{osa_table}

-- how many edits lead from one name to another, where a swap of neighbours is one
unfoldable pub edits : List ℕ → List ℕ → ℕ
edits a b = (osa_table (chars a) (chars b)).last_row (length (chars b))

-- one edit leads from one name to the other, or two do
abbrev pub AreClose : List ℕ → List ℕ → Type 0
AreClose a b = (1 ≤ edits a b) × (edits a b ≤ 2)

-- the name is that of another atom, and close to the atom's
unfoldable pub IsMeantBy : List (List ℕ) → ℕ → List ℕ → Type 0
IsMeantBy names atom meant = (other : ℕ) × (name : List ℕ) × (slice_get names other ≡ Some meant)
    × (slice_get names atom ≡ Some name) × AreClose name meant

-- some name may be meant by the atom's
abbrev pub IsMistyped : List (List ℕ) → ℕ → Type 0
IsMistyped names atom = (meant : List ℕ) × IsMeantBy names atom meant
