-- What is found at the front of bytes.
use Rattle.std.specs.Prelude.{◌≡◌, ◌<◌, ◌++◌, ℕ, List, [], Some, length, slice_get}
use Rattle.std.specs.Char.{encode_utf8}
use Rattle.ps_hints.specs.declared.found.Found.{Found}
use Rattle.ps_hints.specs.declared.found.Found.TheVariants as found

-- some bytes begin with others
abbrev pub IsFront : (front bytes : List ℕ) → Type 0
IsFront front bytes = (rest : List ℕ) × (bytes ≡ front ++ rest)

-- what is found is a token or a character with which the bytes begin, their first byte, or their end
abbrev pub IsFound : List ℕ → Found → Type 0
IsFound bytes found.TextEnd = bytes ≡ []
IsFound bytes found.LineEnd = ⊥
IsFound bytes (found.Byte b) = slice_get bytes 0 ≡ Some b
IsFound bytes (found.Token t) = (0 < length t.now) × IsFront t.now bytes
IsFound bytes (found.Character c) = IsFront (encode_utf8 c) bytes
