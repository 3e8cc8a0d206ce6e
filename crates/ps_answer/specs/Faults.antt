-- The text of an answer, and the first line at fault of bytes that are none.
use Rattle.std.specs.Prelude.{ℕ, ◌+◌, ◌≡◌, ◌≢◌, false, List, [], ◌∷◌, ◌++◌, length, Some, None, Bool, true, bytes_eq, ⊤}
use Rattle.std.specs.List.{AllByRecursion, list_any}
use Rattle.ps_io.specs.LineText.{lines_bytes}
use Rattle.ps_log.specs.Spellings.{words_of}
use Rattle.ps_log.specs.FirstLines.{IsOneLine, IsFirstLine}
use Rattle.ps_answer.specs.declared.item.LineItem.{LineItem}
use Rattle.ps_answer.specs.declared.answer.Answer.{Answer}
use Rattle.ps_answer.specs.declared.error.LineKind.{LineKind}
use Rattle.ps_answer.specs.declared.error.LineKind.TheVariants.{Truncated, BadLine, NotCanonical, TooLarge, MoreAfterEnd}
use Rattle.ps_answer.specs.Items.{IsLine, IsSpelled, IsWithin}
use Rattle.ps_answer.specs.Answers.{answer_items, IsAnswerCounted}
use Rattle.ps_answer.specs.declared.part.Part.{Part}
use Rattle.ps_answer.specs.ExpectedParts.{first_words, behind, at_start, due_behind}

-- lines say these things, one each
abbrev pub AreLines : List (List ℕ) → List LineItem → Type 0
AreLines [] [] = ⊤
AreLines [] (i ∷ is) = ⊥
AreLines (l ∷ ls) [] = ⊥
AreLines (l ∷ ls) (i ∷ is) = IsLine l i × AreLines ls is

-- bytes begin with whole lines that say these things, and this is the rest
pub record BeginWith (bytes : List ℕ) (items : List LineItem) (rest : List ℕ) : Type 0 where
  pub lines : List (List ℕ)
  pub are : bytes ≡ lines_bytes false lines ++ rest
  pub whole : AllByRecursion IsOneLine lines
  pub say : AreLines lines items

-- lines spell these things, one each
abbrev pub AreSpelled : List (List ℕ) → List LineItem → Type 0
AreSpelled [] [] = ⊤
AreSpelled [] (i ∷ is) = ⊥
AreSpelled (l ∷ ls) [] = ⊥
AreSpelled (l ∷ ls) (i ∷ is) = IsSpelled l i × AreSpelled ls is

-- bytes are the text of an answer, whose numbers may have any size and any sign
pub record IsText (bytes : List ℕ) (a : Answer) : Type 0 where
  pub lines : List (List ℕ)
  pub are : bytes ≡ lines_bytes false lines
  pub whole : AllByRecursion IsOneLine lines
  pub spell : AreSpelled lines (answer_items a)
  pub counted : IsAnswerCounted a

-- bytes are the text of an answer that is within the limits
pub record IsReport (bytes : List ℕ) (a : Answer) : Type 0 where
  pub lines : BeginWith bytes (answer_items a) []
  pub counted : IsAnswerCounted a
  pub within : AllByRecursion IsWithin (answer_items a)

-- the first of these words, or no bytes where there is none
abbrev pub first_of : List (List ℕ) → List ℕ
first_of [] = []
first_of (w ∷ ws) = w

-- the word before a line's first space
abbrev pub first_word : List ℕ → List ℕ
first_word line = first_of (words_of line)

-- a line begins with a word that is due
abbrev pub is_begun : Part → List ℕ → Bool
is_begun p line = list_any (λ w. bytes_eq (first_word line) w) (first_words p)

-- the first line begins with a word that isn't due
pub record IsBad (p : Part) (rest : List ℕ) : Type 0 where
  pub line : List ℕ
  pub more : List ℕ
  pub first : IsFirstLine rest line more
  pub bad : is_begun p line ≡ false

-- the first line begins with a word that is due, and is no line of the part, whatever the size of its numbers
pub record IsNoLine (p : Part) (due : List Part) (rest : List ℕ) : Type 0 where
  pub line : List ℕ
  pub more : List ℕ
  pub first : IsFirstLine rest line more
  pub begun : is_begun p line ≡ true
  pub none : (i : LineItem) → IsLine line i → behind p i due ≡ None

-- the first line is one of the part, and past a limit
pub record IsLarge (p : Part) (due : List Part) (rest : List ℕ) : Type 0 where
  pub line : List ℕ
  pub more : List ℕ
  pub first : IsFirstLine rest line more
  pub item : LineItem
  pub says : IsLine line item
  pub next : List Part
  pub fits : behind p item due ≡ Some next
  pub past : IsWithin item → ⊥

-- the fault of what comes next, where these parts are due
abbrev pub IsFault : List Part → List ℕ → LineKind → Type 0
IsFault [] rest MoreAfterEnd = rest ≢ []
IsFault [] rest kind = ⊥
IsFault (p ∷ due) rest Truncated = IsOneLine rest
IsFault (p ∷ due) rest BadLine = IsBad p rest
IsFault (p ∷ due) rest NotCanonical = IsNoLine p due rest
IsFault (p ∷ due) rest TooLarge = IsLarge p due rest
IsFault (p ∷ due) rest MoreAfterEnd = ⊥

-- the lines before this one are due and within the limits, and this one is at fault
pub record IsFirstFault (bytes : List ℕ) (kind : LineKind) (line : ℕ) : Type 0 where
  pub items : List LineItem
  pub rest : List ℕ
  pub due : List Part
  pub before : BeginWith bytes items rest
  pub within : AllByRecursion IsWithin items
  pub due_is : due_behind at_start items ≡ Some due
  pub number : line ≡ length items + 1
  pub fault : IsFault due rest kind
