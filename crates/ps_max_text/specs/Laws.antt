-- Laws of the text of answers.
use Rattle.std.specs.Prelude.{ℕ, ◌≡◌, List}
use Rattle.std.specs.List.{AllByRecursion}
use Rattle.ps_answer.specs.declared.error.LineKind.{LineKind}
use Rattle.ps_max_answer.specs.declared.answer.MaxAnswer.{MaxAnswer}
use Rattle.ps_max_text.specs.Faults.{IsFirstFault}
use Rattle.ps_max_text.specs.Texts.{max_lines, max_text, IsMaxWithin, IsShortLine}

-- each line of an answer within the limits is shorter than the longest that is written
abbrev pub AnswersAreShort : Type 0
AnswersAreShort = (a : MaxAnswer) → IsMaxWithin a → AllByRecursion IsShortLine (max_lines a)

-- an answer within the limits is determined by its text
abbrev pub TextsDetermineAnswers : Type 0
TextsDetermineAnswers = (a b : MaxAnswer) → IsMaxWithin a → IsMaxWithin b → max_text a ≡ max_text b → a ≡ b

-- the text of an answer within the limits has no line at fault
abbrev pub TextsHaveNoFault : Type 0
TextsHaveNoFault = (a : MaxAnswer) (kind : LineKind) (line : ℕ) → IsMaxWithin a → IsFirstFault (max_text a) kind line → ⊥

-- bytes have at most one first line at fault, of one kind
abbrev pub FaultsAreSingle : Type 0
FaultsAreSingle = (bytes : List ℕ) (k l : LineKind) (m n : ℕ) → IsFirstFault bytes k m → IsFirstFault bytes l n
    → (k ≡ l) × (m ≡ n)
