-- Lines of words.
use Rattle.std.specs.Prelude.{ℕ, ℤ, List, [], ◌∷◌, ◌++◌, length, min, Bool, ◌==◌, not, ◌&&◌, IsTrue, if◌then◌else◌, flat_map}
use Rattle.std.specs.Fmt.{signed_decimal}
use Rattle.std.specs.List.{list_all}
use Rattle.ps_io.specs.declared.limits.TheConstants.{LONGEST_NUMBER}

-- no space and no line feed is among the bytes; there may be none
abbrev pub IsWord : List ℕ → Type 0
IsWord bytes = IsTrue (list_all (λ b. not (b == 32) && not (b == 10)) bytes)

-- a text with one more word, after a space where the text isn't empty
abbrev pub with_word : List ℕ → List ℕ → List ℕ
with_word [] word = word
with_word (x ∷ xs) word = (x ∷ xs) ++ 32 ∷ word

-- how many bytes a number of 128 bits takes in a line: its digits and its sign, at most 40 of them
abbrev pub number_length : ℤ → ℕ
number_length n = min LONGEST_NUMBER (length (signed_decimal n))

-- what stands before each line
abbrev pub mark : Bool → List ℕ
mark commented = if commented then 35 ∷ 32 ∷ [] else []

-- what a line of this text is written as
abbrev pub line_bytes : Bool → List ℕ → List ℕ
line_bytes commented text = mark commented ++ text ++ 10 ∷ []

-- what lines of these texts are written as
abbrev pub lines_bytes : Bool → List (List ℕ) → List ℕ
lines_bytes commented texts = flat_map (line_bytes commented) texts
