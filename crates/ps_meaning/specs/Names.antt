-- Which words are names of atoms.
use Rattle.std.specs.Prelude.{◌≡◌, ◌≤◌, ℕ, Bool, false, ◌&&◌, ◌||◌, nat_le, ◌==◌, List, [], ◌∷◌, length, IsTrue}
use Rattle.std.specs.List.{list_all}
use Rattle.std.specs.Str.{bytes_eq}
use lib.Chars.{codes}
use Rattle.ps_meaning.specs.declared.limits.TheConstants.{LONGEST_NAME}

-- `A` to `Z` and `a` to `z`
abbrev pub is_letter : ℕ → Bool
is_letter b = (nat_le 65 b && nat_le b 90) || (nat_le 97 b && nat_le b 122)

-- `0` to `9`
abbrev pub is_digit : ℕ → Bool
is_digit b = nat_le 48 b && nat_le b 57

-- a letter, a digit or `_`
abbrev pub is_word_byte : ℕ → Bool
is_word_byte b = is_letter b || is_digit b || (b == 95)

-- a word begins with a letter, and letters, digits and `_` follow
abbrev pub is_word : List ℕ → Bool
is_word [] = false
is_word (b ∷ bs) = is_letter b && list_all is_word_byte bs

-- the words that the language keeps for itself
abbrev pub is_reserved : List ℕ → Bool
is_reserved w = bytes_eq w (codes "psat") || bytes_eq w (codes "P") || bytes_eq w (codes "given") || bytes_eq w (codes "in")
    || bytes_eq w (codes "query") || bytes_eq w (codes "end") || bytes_eq w (codes "true") || bytes_eq w (codes "false")

-- the name of an atom: a word that isn't too long, nor reserved
pub record IsName (text : List ℕ) : Type 0 where
  pub word : IsTrue (is_word text)
  pub short : length text ≤ LONGEST_NAME
  pub free : is_reserved text ≡ false
