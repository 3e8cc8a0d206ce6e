-- Lines and columns.
use Rattle.std.specs.Prelude.{ℕ, suc, ◌==◌, if◌then◌else◌, List, fold, take}

-- a line and a column, both from 1 on; a column counts bytes
pub record Position : Type 0 where
  pub line : ℕ
  pub column : ℕ

-- the position behind a byte that stands at this one: a line feed alone ends a line
unfoldable pub moved : Position → ℕ → Position
moved p b = if b == 10 then record { line = suc p.line; column = 1 } else record { line = p.line; column = suc p.column }

-- the position behind some bytes
abbrev pub position_behind : List ℕ → Position
position_behind bytes = fold moved (record { line = 1; column = 1 }) bytes

-- the position of a place in some bytes
abbrev pub position_of : List ℕ → ℕ → Position
position_of bytes place = position_behind (take place bytes)
