-- Strings of JSON.
use Rattle.std.specs.Prelude.{ℕ, ◌+◌, ◌-◌, ◌/◌, ◌%◌, ◌==◌, ◌&&◌, ◌||◌, Bool, false, nat_lt, nat_le, if◌then◌else◌}
use Rattle.std.specs.Prelude.{List, [], ◌∷◌, ◌++◌, codes, get_or, Option, Some, None, is_some}
use Rattle.ps_spoken.specs.Listings.{texts_of}

-- a digit to the base 16
abbrev pub hex_digit : ℕ → ℕ
hex_digit n = if nat_lt n 10 then 48 + n else 97 + (n - 10)

-- a character by its number, as four digits to the base 16
abbrev pub number_text : ℕ → List ℕ
number_text n = codes "\\u" ++ hex_digit (n / 4096) ∷ hex_digit (n / 256 % 16) ∷ hex_digit (n / 16 % 16) ∷ hex_digit (n % 16) ∷ []

-- a byte as it stands in a string: a mark before quotes and marks, and the number of a control character
unfoldable pub byte_text : ℕ → List ℕ
byte_text b =
    if b == 34 then codes "\\\"" else if b == 92 then codes "\\\\"
    else if nat_lt b 32 || (b == 127) then number_text b else b ∷ []

-- the byte at a place, and 0 where none stands
abbrev pub byte_at : List ℕ → ℕ → ℕ
byte_at bs place = get_or bs place 0

-- a number from the first to the last
abbrev pub is_between : ℕ → ℕ → ℕ → Bool
is_between first last n = nat_le first n && nat_le n last

-- the number of the character that begins with three bytes, where a terminal must not get it: U+0080 to U+009F are control
-- characters, U+202A to U+202E and U+2066 to U+2069 turn the direction of what follows
abbrev pub hidden_from : ℕ → ℕ → ℕ → Option ℕ
hidden_from a b c =
    if (a == 0xc2) && is_between 0x80 0x9f b then Some b
    else if (a == 0xe2) && ((b == 0x80) && is_between 0xaa 0xae c) then Some (0x1f80 + c)
    else if (a == 0xe2) && ((b == 0x81) && is_between 0xa6 0xa9 c) then Some (0x1fc0 + c)
    else None

-- that of the character that begins at a place
unfoldable pub hidden_at : List ℕ → ℕ → Option ℕ
hidden_at bs place = hidden_from (byte_at bs place) (byte_at bs (place + 1)) (byte_at bs (place + 2))

-- the byte at a place is the second of such a character
unfoldable pub is_second : List ℕ → ℕ → Bool
is_second bs place = if place == 0 then false else is_some (hidden_at bs (place - 1))

-- it is the third of one: only those that begin with this byte have three
unfoldable pub is_third : List ℕ → ℕ → Bool
is_third bs place =
    if nat_lt place 2 then false
    else if byte_at bs (place - 2) == 0xe2 then is_some (hidden_at bs (place - 2)) else false

-- what stands for a byte with which such a character begins, or none
abbrev pub begun_text : Option ℕ → ℕ → List ℕ
begun_text (Some n) b = number_text n
begun_text None b = byte_text b

-- what stands for the byte at a place: for such a character its number
unfoldable pub text_at : List ℕ → ℕ → ℕ → List ℕ
text_at bs place b = if is_second bs place then [] else if is_third bs place then [] else begun_text (hidden_at bs place) b

-- bytes as they stand in a string
abbrev pub escaped_text : List ℕ → List ℕ
escaped_text bs = texts_of (text_at bs) bs

-- a string
abbrev pub string_text : List ℕ → List ℕ
string_text bs = codes "\"" ++ (escaped_text bs ++ codes "\"")
