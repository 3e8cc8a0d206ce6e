-- Words that spell numbers of any size.
use Rattle.std.specs.Prelude.{ℕ, suc, ◌≡◌, ◌==◌, ℤ, pos, negsuc, List, [], ◌∷◌, length, slice_index, ⊤}
use Rattle.std.specs.List.{slice_split}
use Rattle.std.specs.Str.Parse.{IsNumeral, digits_value}

-- the parts of a line between its spaces
abbrev pub words_of : List ℕ → List (List ℕ)
words_of line = slice_split (λ b. b == 32) line

-- digits, and no leading zero before others
pub record IsPlain (word : List ℕ) : Type 0 where
  pub digits : IsNumeral 10 word
  pub no_leading_zero : slice_index word 0 ≡ 48 → length word ≡ 1

-- digits without a leading zero, and their number
pub record IsDecimal (word : List ℕ) (n : ℕ) : Type 0 where
  pub plain : IsPlain word
  pub value : digits_value 10 word ≡ n

-- a word spells a number, with a minus before it where it is below 0
abbrev pub Spells : List ℕ → ℤ → Type 0
Spells word (pos n) = IsDecimal word n
Spells [] (negsuc n) = ⊥
Spells (c ∷ cs) (negsuc n) = (c ≡ 45) × IsDecimal cs (suc n)

-- words spell numbers, one each
abbrev pub SpellAll : List (List ℕ) → List ℤ → Type 0
SpellAll [] [] = ⊤
SpellAll [] (z ∷ zs) = ⊥
SpellAll (w ∷ ws) [] = ⊥
SpellAll (w ∷ ws) (z ∷ zs) = Spells w z × SpellAll ws zs
