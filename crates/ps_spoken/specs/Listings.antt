-- Texts of the items of a list, one after the other, by their places.
use Rattle.std.specs.Prelude.{ℕ, suc, ◌==◌, if◌then◌else◌, List, [], ◌∷◌, ◌++◌, codes}

-- a comma before each item but the first
abbrev pub comma_before : ℕ → List ℕ
comma_before place = if place == 0 then [] else codes ","

-- the texts of items, whose first is at this place
abbrev pub texts_from : {X : Type 0} → (ℕ → X → List ℕ) → ℕ → List X → List ℕ
texts_from text place [] = []
texts_from text place (x ∷ xs) = text place x ++ texts_from text (suc place) xs

-- the texts of items
abbrev pub texts_of : {X : Type 0} → (ℕ → X → List ℕ) → List X → List ℕ
texts_of text xs = texts_from text 0 xs
