-- Positions as they are kept.
use Rattle.std.specs.Prelude.{ℕ, ◌+◌, ◌≤◌, ◌<◌, ◌^◌, ◌==◌, if◌then◌else◌}
use Rattle.ps_text.specs.Positions as text
use Rattle.ps_lex.specs.declared.position.Position.{Position}

-- a position as a text has it, without the count of bytes
abbrev pub line_and_column : Position → text.Position
line_and_column p = record { line = p.line; column = p.column }

-- where a text begins
abbrev pub start : Position
start = record { line = 1; column = 1; offset = 0 }

-- the position behind a byte that stands at this one
unfoldable pub behind : Position → ℕ → Position
behind p b = if b == 10 then record { line = p.line + 1; column = 1; offset = p.offset + 1 }
    else record { line = p.line; column = p.column + 1; offset = p.offset + 1 }

-- none of its numbers is greater
pub record IsWithin (most : ℕ) (p : Position) : Type 0 where
  pub line : p.line ≤ most
  pub column : p.column ≤ most
  pub offset : p.offset ≤ most

-- so many bytes more have positions that are kept
pub record HasRoom (count : ℕ) (p : Position) : Type 0 where
  pub line : p.line + count < 2 ^ 32
  pub column : p.column + count < 2 ^ 32
  pub offset : p.offset + count < 2 ^ 32

-- the position behind so many bytes of a line
abbrev pub along : Position → ℕ → Position
along p n = record { line = p.line; column = p.column + n; offset = p.offset + n }
