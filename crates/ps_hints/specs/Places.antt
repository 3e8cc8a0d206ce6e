-- Places as they are kept.
use Rattle.std.specs.Prelude.{◌<◌, ◌≤◌, ◌+◌, ◌^◌, ℕ, List, [], ◌∷◌, Bool, true, false, length}
use Rattle.ps_text.specs.Positions.{Position}
use Rattle.ps_hints.specs.declared.place.Place.{Place}

-- a place as a text has it
abbrev pub position : Place → Position
position p = record { line = p.line; column = p.column }

-- the place behind one byte more is kept as it is
abbrev pub IsKept : Place → Type 0
IsKept p = (p.line + 1 < 2 ^ 32) × (p.column + 1 < 2 ^ 32)

-- the number of a line on which a byte stands, from 1 on
abbrev pub IsLineOf : List ℕ → ℕ → Type 0
IsLineOf bytes n = (1 ≤ n) × (n ≤ length bytes)

-- a number, where there is one
abbrev pub noted : Bool → ℕ → List ℕ
noted true n = n ∷ []
noted false n = []
