-- Names as they are shown.
use Rattle.std.specs.Prelude.{◌≡◌, ◌≤◌, ◌<◌, ◌⊎◌, ◌+◌, ℕ, Bool, ◌&&◌, ◌||◌, not, nat_lt, nat_le, if◌then◌else◌, false}
use Rattle.std.specs.Prelude.{List, ◌++◌, codes, flat_map, sum_by, take, unwrap_or}
use Rattle.std.specs.Str.{NoCharPasses}
use Rattle.std.specs.Char.{encode_utf8, is_control}
use Rattle.unicode_width.specs.Width.{char_width}

-- a character that turns the direction in which others are shown
abbrev pub turns_direction : ℕ → Bool
turns_direction c = (nat_le 0x202A c && nat_le c 0x202E) || (nat_le 0x2066 c && nat_le c 0x2069)

-- a control character, or one that turns the direction: to a terminal it may be a command
abbrev pub is_turning : ℕ → Bool
is_turning c = is_control c || turns_direction c

-- none of them stands in the text
unfoldable pub IsPlain : List ℕ → Type 0
IsPlain text = NoCharPasses is_turning text

-- the columns that a character takes; a control character has none
unfoldable pub columns : ℕ → ℕ
columns c = unwrap_or (char_width false c) 0

-- a character as it is shown: itself, where it takes columns and turns nothing, or a question mark
unfoldable pub shown : ℕ → ℕ
shown c = if nat_lt 0 (columns c) && not (is_control c) && not (turns_direction c) then c else 63

-- the columns that characters take
abbrev pub columns_of : List ℕ → ℕ
columns_of cs = sum_by columns cs

-- the text is one of characters that take so many columns at most
unfoldable pub TakesAtMost : ℕ → List ℕ → Type 0
TakesAtMost most text = (cs : List ℕ) × (text ≡ flat_map encode_utf8 cs) × (columns_of cs ≤ most)

-- the bytes of a character as it is shown
unfoldable pub glyph : ℕ → List ℕ
glyph c = encode_utf8 (shown c)

-- the bytes of characters as they are shown
abbrev pub shown_text : List ℕ → List ℕ
shown_text cs = flat_map glyph cs

-- the columns of a character as it is shown
unfoldable pub width : ℕ → ℕ
width c = columns (shown c)

-- the columns of characters as they are shown
abbrev pub shown_columns : List ℕ → ℕ
shown_columns cs = sum_by width cs

-- the text shows a front of the characters, behind which the next one has no room, and a mark that more stand there
pub record ShowsSome (room : ℕ) (cs text : List ℕ) : Type 0 where
  pub count : ℕ
  pub full : room < shown_columns (take (count + 1) cs)
  pub front : text ≡ shown_text (take count cs) ++ codes "..."

-- the text shows all characters, or as many as have room
abbrev pub Shows : ℕ → List ℕ → List ℕ → Type 0
Shows room cs text = (text ≡ shown_text cs) ⊎ ShowsSome room cs text
