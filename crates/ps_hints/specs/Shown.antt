-- Characters and texts as they are shown.
use Rattle.std.specs.Prelude.{◌≡◌, ℕ, List, [], ◌∷◌, ◌++◌, Bool, ◌&&◌}
use Rattle.std.specs.Prelude.{◌||◌, not, ◌==◌, if◌then◌else◌, ◌⊎◌, nat_lt, unwrap_or, false}
use Rattle.std.proofs.Math.ListN.{replicate}
use Rattle.std.specs.Str.{NoCharPasses}
use Rattle.std.specs.List.{flat_map}
use Rattle.std.specs.Char.{encode_utf8, is_control}
use Rattle.unicode_width.specs.Width.{char_width}

-- a control character other than a tab or a line feed: to a terminal it may be a command
abbrev pub is_command : ℕ → Bool
is_command c = is_control c && not (c == 9 || c == 10)

-- none of them stands in the text
unfoldable pub IsHarmless : List ℕ → Type 0
IsHarmless text = NoCharPasses is_command text

-- the columns that a character takes; a control character has none
unfoldable pub columns : ℕ → ℕ
columns c = unwrap_or (char_width false c) 0

-- a tab, a space, or another character that takes columns and is no control character
abbrev pub is_shown : ℕ → Bool
is_shown c = (c == 9) || (c == 32) || (nat_lt 0 (columns c) && not (is_control c))

-- a character as it is shown: itself, or a question mark
unfoldable pub shown : ℕ → ℕ
shown c = if is_shown c then c else 63

-- the bytes of a character as it is shown
unfoldable pub glyph : ℕ → List ℕ
glyph c = encode_utf8 (shown c)

-- the bytes of characters as they are shown
abbrev pub shown_text : List ℕ → List ℕ
shown_text cs = flat_map glyph cs

-- spaces
abbrev pub spaces : ℕ → List ℕ
spaces n = replicate n 32

-- what is as wide as a character: a tab for a tab, and spaces for all else
unfoldable pub blank : ℕ → List ℕ
blank c = if c == 9 then 9 ∷ [] else spaces (columns c)

-- what stands below characters and is as wide as they are
abbrev pub blank_below : List ℕ → List ℕ
blank_below cs = flat_map blank cs

-- the text ends with a line feed
unfoldable pub EndsLine : List ℕ → Type 0
EndsLine text = (front : List ℕ) × (text ≡ front ++ 10 ∷ [])

-- whole lines without commands to a terminal
unfoldable pub AreLines : List ℕ → Type 0
AreLines text = IsHarmless text × ((text ≡ []) ⊎ EndsLine text)

-- whole lines without commands to a terminal are added, or none
unfoldable pub AddsLines : (old new : List ℕ) → Type 0
AddsLines old new = (lines : List ℕ) × (new ≡ old ++ lines) × AreLines lines
