-- What words and lines spell.
use Rattle.std.specs.Prelude.{ℕ, ◌==◌, nat_lt, ℤ, pos, neg_ℤ, Bool, false, ◌&&◌, if◌then◌else◌, Option, Some, None, List, [], ◌∷◌}
use Rattle.std.specs.Char.{digit_value}
use Rattle.std.specs.List.{list_all}
use Rattle.std.specs.Str.{bytes_eq}
use Rattle.std.specs.Str.Parse.{digits_value}
use Rattle.ps_wcnf.specs.Splitting.{words_of}

-- decimal digits of a number of at least 1, of any size, leading zeros being allowed
abbrev pub is_count : List ℕ → Bool
is_count word = list_all (λ b. nat_lt (digit_value b) 10) word && nat_lt 0 (digits_value 10 word)

-- whether a word is a literal: digits of a number of at least 1, behind a minus where it is negative
abbrev pub is_literal : List ℕ → Bool
is_literal [] = false
is_literal (b ∷ bs) = if b == 45 then is_count bs else is_count (b ∷ bs)

-- the literal that a word spells
abbrev pub literal_of : List ℕ → ℤ
literal_of [] = pos 0
literal_of (b ∷ bs) = if b == 45 then neg_ℤ (pos (digits_value 10 bs)) else pos (digits_value 10 (b ∷ bs))

-- one more literal before others, if there are others
abbrev pub with_first : ℤ → Option (List ℤ) → Option (List ℤ)
with_first l None = None
with_first l (Some ls) = Some (l ∷ ls)

-- the literals that words spell up to a closing 0, which is the last word
abbrev pub literals_in : List (List ℕ) → Option (List ℤ)
literals_in [] = None
literals_in (w ∷ []) = if bytes_eq w (48 ∷ []) then Some [] else None
literals_in (w ∷ x ∷ ws) = if is_literal w then with_first (literal_of w) (literals_in (x ∷ ws)) else None

-- what a line says, with numbers of any size: nothing, a hard clause, or a soft one
pub data Line : Type 0 where
  Nothing : Line
  Hard : (lits : List ℤ) → Line
  Soft : (weight : ℤ) (lits : List ℤ) → Line

abbrev pub hard_of : Option (List ℤ) → Option Line
hard_of None = None
hard_of (Some lits) = Some (Hard lits)

abbrev pub soft_of : ℤ → Option (List ℤ) → Option Line
soft_of weight None = None
soft_of weight (Some lits) = Some (Soft weight lits)

-- whether a word begins with `c`
abbrev pub is_comment : List ℕ → Bool
is_comment [] = false
is_comment (b ∷ bs) = b == 99

-- what words say: nothing where there is none or the first begins with `c`; literals and a closing 0, behind `h` or a weight
abbrev pub line_of_words : List (List ℕ) → Option Line
line_of_words [] = Some Nothing
line_of_words (w ∷ ws) =
    if is_comment w then Some Nothing
    else (if bytes_eq w (104 ∷ []) then hard_of (literals_in ws)
    else (if is_count w then soft_of (pos (digits_value 10 w)) (literals_in ws) else None))

-- what a line says, if it has one of the forms
abbrev pub line_of : List ℕ → Option Line
line_of line = line_of_words (words_of line)
