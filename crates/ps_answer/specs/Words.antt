-- The words of a line.
use Rattle.std.specs.Prelude.{ℕ, ◌≡◌, ◌<◌, ◌^◌, ℤ, Bool, true, false, List}
use Rattle.std.specs.Prelude.{[], ◌∷◌, ◌++◌, map, fold, codes, decimal, unsigned_abs, ⊤}
use Rattle.std.specs.Fmt.{signed_decimal}
use Rattle.ps_io.specs.LineText.{with_word}
use Rattle.ps_meaning.specs.Formula.{World}
use Rattle.ps_log.specs.Spellings.{IsDecimal, Spells}
use Rattle.ps_table.specs.declared.col.Col.{Col}
use Rattle.ps_table.specs.declared.col.Col.TheVariants.{Home, World as WorldCol}
use Rattle.ps_answer.specs.declared.item.Ratio.{Ratio}

-- what a word says: letters as they are, a number, a fraction, a column, or a world
pub data Word : Type 0 where
  Letters : (letters : List ℕ) → Word
  Number : (number : ℤ) → Word
  Fraction : (value : Ratio) → Word
  Column : (col : Col) → Word
  Truths : (world : World) → Word

-- the digit of a truth value
abbrev pub digit_of : Bool → ℕ
digit_of false = 48
digit_of true = 49

-- the letters of a side: `upper` for the upper one, else `lower`
abbrev pub side_letters : Bool → List ℕ
side_letters false = codes "lower"
side_letters true = codes "upper"

-- a world: a digit for each atom, or a dash where there is none
abbrev pub world_text : World → List ℕ
world_text [] = codes "-"
world_text (b ∷ w) = map digit_of (b ∷ w)

-- a column of the table: `h` for the home of a row, `w` for a world
abbrev pub column_text : Col → List ℕ
column_text (Home i) = codes "h" ++ decimal i
column_text (WorldCol n) = codes "w" ++ decimal n

-- what is written of a word
abbrev pub word_text : Word → List ℕ
word_text (Letters letters) = letters
word_text (Number n) = signed_decimal n
word_text (Fraction q) = signed_decimal q.over ++ codes "/" ++ decimal q.under
word_text (Column c) = column_text c
word_text (Truths w) = world_text w

-- words with single spaces between them
abbrev pub joined : List Word → List ℕ
joined words = fold (λ line word. with_word line (word_text word)) [] words

-- bytes spell a fraction: its numerator, `/`, its denominator
pub record SpellsRatio (bytes : List ℕ) (q : Ratio) : Type 0 where
  pub over : List ℕ
  pub under : List ℕ
  pub is : bytes ≡ over ++ 47 ∷ under
  pub over_is : Spells over q.over
  pub under_is : IsDecimal under q.under

-- bytes spell a column
abbrev pub SpellsColumn : List ℕ → Col → Type 0
SpellsColumn [] c = ⊥
SpellsColumn (b ∷ bs) (Home i) = (b ≡ 104) × IsDecimal bs i
SpellsColumn (b ∷ bs) (WorldCol n) = (b ≡ 119) × IsDecimal bs n

-- bytes spell a word, whose numbers may have any size
abbrev pub SpellsWord : List ℕ → Word → Type 0
SpellsWord bytes (Letters letters) = bytes ≡ letters
SpellsWord bytes (Number n) = Spells bytes n
SpellsWord bytes (Fraction q) = SpellsRatio bytes q
SpellsWord bytes (Column c) = SpellsColumn bytes c
SpellsWord bytes (Truths w) = bytes ≡ world_text w

-- bytes spell words, one each
abbrev pub SpellWords : List (List ℕ) → List Word → Type 0
SpellWords [] [] = ⊤
SpellWords [] (w ∷ ws) = ⊥
SpellWords (b ∷ bs) [] = ⊥
SpellWords (b ∷ bs) (w ∷ ws) = SpellsWord b w × SpellWords bs ws

-- each number of a word is below 10^64, and so its decimal is written whole
abbrev pub IsShortWord : Word → Type 0
IsShortWord (Letters letters) = ⊤
IsShortWord (Number n) = unsigned_abs n < 10 ^ 64
IsShortWord (Fraction q) = (unsigned_abs q.over < 10 ^ 64) × (q.under < 10 ^ 64)
IsShortWord (Column (Home i)) = i < 10 ^ 64
IsShortWord (Column (WorldCol n)) = n < 10 ^ 64
IsShortWord (Truths w) = ⊤
