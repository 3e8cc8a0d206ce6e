-- The lines of a text, and the words of a line.
use Rattle.std.specs.Prelude.{ℕ, ◌-◌, ◌<◌, ◌≡◌, ◌==◌, nat_lt, Bool, ◌&&◌, ◌||◌, if◌then◌else◌, Option, Some, None, List, []}
use Rattle.std.specs.Prelude.{◌∷◌, length, take, slice_index}
use Rattle.std.specs.List.{filter, slice_split}
use Rattle.ps_log.specs.FirstLines.{IsFirstLine, IsOneLine}

-- a space or a tab
abbrev pub is_blank : ℕ → Bool
is_blank b = (b == 32) || (b == 9)

-- whether there are bytes
abbrev pub has_bytes : List ℕ → Bool
has_bytes bytes = nat_lt 0 (length bytes)

-- the words of a line, between its spaces and tabs
abbrev pub words_of : List ℕ → List (List ℕ)
words_of line = filter has_bytes (slice_split is_blank line)

-- whether the last byte is a carriage return
abbrev pub ends_with_return : List ℕ → Bool
ends_with_return line = nat_lt 0 (length line) && (slice_index line (length line - 1) == 13)

-- a line that a line feed ends, without one carriage return before that
abbrev pub without_return : List ℕ → List ℕ
without_return line = if ends_with_return line then take (length line - 1) line else line

-- each part but the last is ended by a line feed
abbrev pub ended_lines : List (List ℕ) → List (List ℕ)
ended_lines [] = []
ended_lines (part ∷ []) = part ∷ []
ended_lines (part ∷ next ∷ parts) = without_return part ∷ ended_lines (next ∷ parts)

-- the lines of a text; the text ends the last one
abbrev pub lines_of : List ℕ → List (List ℕ)
lines_of text = ended_lines (slice_split (λ b. b == 10) text)

-- the lines of what follows a line feed, if anything does
abbrev pub lines_after : Option (List ℕ) → List (List ℕ)
lines_after None = []
lines_after (Some text) = lines_of text

-- the first part of a text, and what follows the blank behind it
pub record IsFirstPart (text part after : List ℕ) : Type 0 where
  pub parts : slice_split is_blank text ≡ part ∷ slice_split is_blank after
  pub shorter : length after < length text

-- the first word of a text, and what follows it
pub record IsFirstWord (text word after : List ℕ) : Type 0 where
  pub words : words_of text ≡ word ∷ words_of after
  pub shorter : length after < length text

-- a line that a line feed ends, without one carriage return before that, and what follows
pub record IsEndedLine (text line after : List ℕ) : Type 0 where
  pub part : List ℕ
  pub first : IsFirstLine text part after
  pub is : line ≡ without_return part

-- the first line of a text, and what follows the line feed that ends it, if one does
abbrev pub IsCutLine : List ℕ → List ℕ → Option (List ℕ) → Type 0
IsCutLine text line None = (line ≡ text) × IsOneLine text
IsCutLine text line (Some after) = IsEndedLine text line after
