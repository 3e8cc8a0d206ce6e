-- The line that a writer of lines is making.
use Rattle.std.specs.Prelude.{ℕ, ◌≡◌, ◌≤◌, List, [], ◌++◌, drop, length, Bool}
use Rattle.ps_io.specs.LineText.{with_word, mark, line_bytes}
use Rattle.ps_io.specs.declared.limits.TheConstants.{LONGEST_LINE}

-- a line that is being made: its text, and whether a mark goes before it
pub record KeptLine : Type 0 where
  pub text : List ℕ
  pub commented : Bool

-- a line with one more word
abbrev pub add_word : KeptLine → List ℕ → KeptLine
add_word line word = record line { text = with_word line.text word }

-- a line without its text
abbrev pub emptied : KeptLine → KeptLine
emptied line = record line { text = [] }

-- what a line is written as
abbrev pub bytes_of : KeptLine → List ℕ
bytes_of line = line_bytes line.commented line.text

-- bytes are a mark, up to `start`, and a text that is not too long
abbrev pub IsMarkedText : Bool → ℕ → List ℕ → Type 0
IsMarkedText commented start bytes =
    (start ≡ length (mark commented)) × (bytes ≡ mark commented ++ drop start bytes) × (length (drop start bytes) ≤ LONGEST_LINE)
