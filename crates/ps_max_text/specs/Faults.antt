-- The first line at fault of bytes that are no text of an answer.
use Rattle.std.specs.Prelude.{ℕ, ◌+◌, ◌≡◌, ◌≢◌, true, false, List, [], ◌∷◌, ◌++◌, length, Some, None, Bool, bytes_eq}
use Rattle.std.specs.Prelude.{Result, Ok, Err, ⊤}
use Rattle.std.specs.List.{AllByRecursion, list_any}
use Rattle.ps_io.specs.LineText.{lines_bytes}
use Rattle.ps_log.specs.FirstLines.{IsOneLine, IsFirstLine}
use Rattle.ps_answer.specs.Faults.{first_word}
use Rattle.ps_answer.specs.declared.error.LineKind.{LineKind}
use Rattle.ps_answer.specs.declared.error.LineKind.TheVariants.{Truncated, BadLine, NotCanonical, TooLarge, MoreAfterEnd}
use Rattle.ps_answer.specs.declared.error.ReportError.{ReportError}
use Rattle.ps_answer.specs.declared.error.ReportError.TheVariants.{At, NoMemory}
use Rattle.ps_max_answer.specs.declared.answer.MaxAnswer.{MaxAnswer}
use Rattle.ps_max_text.specs.Items.{IsLine, IsWithin}
use Rattle.ps_max_text.specs.Parts.{first_words, behind, at_start, due_behind}
use Rattle.ps_max_text.specs.Texts.{max_text, IsMaxWithin}
use Rattle.ps_max_text.specs.declared.item.MaxItem.{MaxItem}
use Rattle.ps_max_text.specs.declared.part.MaxPart.{MaxPart}
use Rattle.ps_max_text.specs.declared.part.MaxPart.TheVariants.{Values, Step, Goal}

-- lines say these things, one each
abbrev pub AreLines : List (List ℕ) → List MaxItem → Type 0
AreLines [] [] = ⊤
AreLines [] (i ∷ is) = ⊥
AreLines (l ∷ ls) [] = ⊥
AreLines (l ∷ ls) (i ∷ is) = IsLine l i × AreLines ls is

-- bytes begin with whole lines that say these things, and this is the rest
pub record BeginWith (bytes : List ℕ) (items : List MaxItem) (rest : List ℕ) : Type 0 where
  pub lines : List (List ℕ)
  pub are : bytes ≡ lines_bytes false lines ++ rest
  pub whole : AllByRecursion IsOneLine lines
  pub say : AreLines lines items

-- a line begins with a word that is due
abbrev pub is_begun : MaxPart → List ℕ → Bool
is_begun p line = list_any (λ w. bytes_eq (first_word line) w) (first_words p)

-- the first line begins with a word that isn't due
pub record IsBad (p : MaxPart) (rest : List ℕ) : Type 0 where
  pub line : List ℕ
  pub more : List ℕ
  pub first : IsFirstLine rest line more
  pub bad : is_begun p line ≡ false

-- the first line begins with a word that is due, and is no line of the part, whatever the size of its numbers
pub record IsNoLine (p : MaxPart) (due : List MaxPart) (rest : List ℕ) : Type 0 where
  pub line : List ℕ
  pub more : List ℕ
  pub first : IsFirstLine rest line more
  pub begun : is_begun p line ≡ true
  pub none : (i : MaxItem) → IsLine line i → behind p i due ≡ None

-- the first line is one of the part, and past a limit
pub record IsLarge (p : MaxPart) (due : List MaxPart) (rest : List ℕ) : Type 0 where
  pub line : List ℕ
  pub more : List ℕ
  pub first : IsFirstLine rest line more
  pub item : MaxItem
  pub says : IsLine line item
  pub next : List MaxPart
  pub fits : behind p item due ≡ Some next
  pub past : IsWithin item → ⊥

-- the fault of what comes next, where these parts are due
abbrev pub IsFault : List MaxPart → List ℕ → LineKind → Type 0
IsFault [] rest MoreAfterEnd = rest ≢ []
IsFault [] rest kind = ⊥
IsFault (p ∷ due) rest Truncated = IsOneLine rest
IsFault (p ∷ due) rest BadLine = IsBad p rest
IsFault (p ∷ due) rest NotCanonical = IsNoLine p due rest
IsFault (p ∷ due) rest TooLarge = IsLarge p due rest
IsFault (p ∷ due) rest MoreAfterEnd = ⊥

-- the lines before this one are due and within the limits, and this one is at fault
pub record IsFirstFault (bytes : List ℕ) (kind : LineKind) (line : ℕ) : Type 0 where
  pub items : List MaxItem
  pub rest : List ℕ
  pub due : List MaxPart
  pub before : BeginWith bytes items rest
  pub within : AllByRecursion IsWithin items
  pub due_is : due_behind at_start items ≡ Some due
  pub number : line ≡ length items + 1
  pub fault : IsFault due rest kind

-- memory is taken for what a line says where one of these parts is due: for values, steps and goals
abbrev pub TakesMemory : MaxPart → Type 0
TakesMemory Values = ⊤
TakesMemory Step = ⊤
TakesMemory Goal = ⊤
TakesMemory p = ⊥

-- the first line begins with a word that is due, and memory is taken for what it says
pub record IsLackingLine (p : MaxPart) (bytes : List ℕ) : Type 0 where
  pub line : List ℕ
  pub rest : List ℕ
  pub first : IsFirstLine bytes line rest
  pub begun : is_begun p line ≡ true
  pub takes : TakesMemory p

-- where these parts are due, memory is taken for the first line
abbrev pub IsLacking : List MaxPart → List ℕ → Type 0
IsLacking [] bytes = ⊥
IsLacking (p ∷ due) bytes = IsLackingLine p bytes

-- where these parts are due, lines before one are due and within the limits, and for this one memory is taken
pub record LacksAt (parts : List MaxPart) (bytes : List ℕ) : Type 0 where
  pub items : List MaxItem
  pub rest : List ℕ
  pub next : List MaxPart
  pub before : BeginWith bytes items rest
  pub within : AllByRecursion IsWithin items
  pub due_is : due_behind parts items ≡ Some next
  pub takes : IsLacking next rest

-- what is read of bytes: the answer whose text they are, within the limits; or the first line at fault; or memory lacks for a
-- line, and none before it is at fault
abbrev pub IsMaxRead : List ℕ → Result MaxAnswer ReportError → Type 0
IsMaxRead bytes (Ok a) = (bytes ≡ max_text a) × IsMaxWithin a
IsMaxRead bytes (Err (At kind line)) = IsFirstFault bytes kind line
IsMaxRead bytes (Err NoMemory) = LacksAt at_start bytes
