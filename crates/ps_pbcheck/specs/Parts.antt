-- A row cut into parts.
use Rattle.std.specs.Prelude.{ℕ, zero, suc, ◌≡◌, ◌≤◌, ◌-◌, ℤ, List, [], ◌∷◌, take, drop, slice_index_or}

-- the parts of a row from a place on, by where each ends
abbrev pub parts_from : ℕ → List ℤ → List ℕ → List (List ℤ)
parts_from start row [] = []
parts_from start row (end ∷ ends) = take (end - start) (drop start row) ∷ parts_from end row ends

-- the ends rise from this place on, and the last part ends where the row ends
abbrev pub AreEnds : ℕ → ℕ → List ℕ → Type 0
AreEnds start n [] = start ≡ n
AreEnds start n (end ∷ ends) = (start ≤ end) × AreEnds end n ends

-- where the part of a number begins: where the one before it ends
abbrev pub start_at : ℕ → List ℕ → ℕ → ℕ
start_at start ends zero = start
start_at start ends (suc i) = slice_index_or ends i 0
