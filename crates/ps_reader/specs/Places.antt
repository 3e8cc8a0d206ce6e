-- Places of the solver that are read.
use Rattle.std.specs.Prelude.{ℕ, ◌≡◌, ◌≤◌, List, [], ◌∷◌, ◌++◌, codes, Result, Ok, Err}
use Rattle.ps_table.specs.declared.place.Place.{Place}
use Rattle.ps_answer.specs.Items.{count, place_words, IsWorldWithin, IsPlaceWithin}
use Rattle.ps_answer.specs.declared.limits.TheConstants.{MOST_ROW}
use Rattle.ps_answer.specs.Words.{Word, SpellWords}
use Rattle.ps_reader.specs.declared.line_fault.LineFault.{LineFault}
use Rattle.ps_reader.specs.declared.line_fault.LineFault.TheVariants.{NotCanonical, TooLarge, NoMemory}

-- words begin with those of this, before others
abbrev pub Begins : {A : Type 0} → (A → List Word) → List (List ℕ) → List (List ℕ) → A → Type 0
Begins written words rest a = (tail : List Word) → SpellWords rest tail → SpellWords words (written a ++ tail)

-- and these others follow, whatever the words begin with
abbrev pub Leaves : {A : Type 0} → (A → List Word) → List (List ℕ) → List (List ℕ) → Type 0
Leaves {A} written words rest = (a : A) (tail : List Word) → SpellWords words (written a ++ tail) → SpellWords rest tail

-- something is read that words begin with
abbrev pub IsFrontRead : {A : Type 0} → (A → List Word) → (A → Type 0) → List (List ℕ) → List (List ℕ)
    → Result A LineFault → Type 0
IsFrontRead written Fits words rest (Ok a) = Begins written words rest a × Fits a × Leaves written words rest
IsFrontRead {A} written Fits words rest (Err NotCanonical) = (a : A) (tail : List Word) → SpellWords words (written a ++ tail) → ⊥
IsFrontRead {A} written Fits words rest (Err TooLarge) =
    (a : A) × Begins written words rest a × (Fits a → ⊥) × Leaves written words rest
IsFrontRead written Fits words rest (Err NoMemory) = ⊥

-- a place is read
abbrev pub IsPlaceRead : List (List ℕ) → List (List ℕ) → Result Place LineFault → Type 0
IsPlaceRead words rest result = IsFrontRead place_words IsPlaceWithin words rest result

-- a world and a home
abbrev pub price_words : ℕ × ℕ → List Word
price_words a = count a.0 ∷ count a.1 ∷ []

-- the world is within the limits, and so is the home
abbrev pub IsPriceWithin : ℕ × ℕ → Type 0
IsPriceWithin a = IsWorldWithin a.0 × (a.1 ≤ MOST_ROW)

-- a world, a row and a home
abbrev pub entry_words : ℕ × (ℕ × ℕ) → List Word
entry_words a = count a.0 ∷ count a.1.0 ∷ count a.1.1 ∷ []

-- the world is within the limits, and so are the row and the home
abbrev pub IsEntryWithin : ℕ × (ℕ × ℕ) → Type 0
IsEntryWithin a = IsWorldWithin a.0 × ((a.1.0 ≤ MOST_ROW) × (a.1.1 ≤ MOST_ROW))

-- a name is none of a place within the table
pub record IsBesideTable (name : List ℕ) : Type 0 where
  pub not_ratio : name ≡ codes "ratio" → ⊥
  pub not_scale : name ≡ codes "scale" → ⊥
  pub not_times : name ≡ codes "times" → ⊥
  pub not_minus : name ≡ codes "minus" → ⊥
  pub not_cost : name ≡ codes "cost" → ⊥

-- nor one of a price or of a world's column
pub record IsPrintedPlace (name : List ℕ) : Type 0 where
  pub beside : IsBesideTable name
  pub not_price_times : name ≡ codes "price-times" → ⊥
  pub not_price_plus : name ≡ codes "price-plus" → ⊥
  pub not_column_times : name ≡ codes "column-times" → ⊥
  pub not_column_plus : name ≡ codes "column-plus" → ⊥
