-- Laws of the text of answers.
use Rattle.std.specs.Prelude.{ℕ, ◌≡◌, false, List, [], Some}
use Rattle.std.specs.List.{AllByRecursion}
use Rattle.ps_io.specs.LineText.{lines_bytes}
use Rattle.ps_answer.specs.declared.answer.Answer.{Answer}
use Rattle.ps_answer.specs.declared.item.LineItem.{LineItem}
use Rattle.ps_answer.specs.declared.error.LineKind.{LineKind}
use Rattle.ps_answer.specs.Items.{IsLine, IsSpelled, IsTold, IsProper, IsWithin, HasShortNumbers, item_line}
use Rattle.ps_answer.specs.Answers.{answer_items, answer_lines, IsAnswerCounted}
use Rattle.ps_answer.specs.ExpectedParts.{at_start, due_behind}
use Rattle.ps_answer.specs.Faults.{BeginWith, IsText, IsReport, IsFirstFault}

-- a line says one thing, whatever the size of its numbers
abbrev pub LinesSayOneThing : Type 0
LinesSayOneThing = (text : List ℕ) (i j : LineItem) → IsSpelled text i → IsSpelled text j → i ≡ j

-- an answer is determined by its text
abbrev pub TextsDetermineAnswers : Type 0
TextsDetermineAnswers = (bytes : List ℕ) (a b : Answer) → IsText bytes a → IsText bytes b → a ≡ b

-- a report is the text of its answer
abbrev pub ReportsAreTexts : Type 0
ReportsAreTexts = (bytes : List ℕ) (a : Answer) → IsReport bytes a → IsText bytes a

-- an answer's lines are due, each behind the one before, and nothing is due behind the last
abbrev pub AnswersAreDue : Type 0
AnswersAreDue = (a : Answer) → IsAnswerCounted a → due_behind at_start (answer_items a) ≡ Some []

-- lines within the limits that are due, up to the end, are the report of an answer
abbrev pub DueLinesAreReports : Type 0
DueLinesAreReports = (bytes : List ℕ) (is : List LineItem) → BeginWith bytes is [] → AllByRecursion IsWithin is
    → due_behind at_start is ≡ Some [] → (a : Answer) × IsReport bytes a

-- a report has no line at fault
abbrev pub ReportsHaveNoFault : Type 0
ReportsHaveNoFault = (bytes : List ℕ) (a : Answer) (k : LineKind) (n : ℕ) → IsReport bytes a → IsFirstFault bytes k n → ⊥

-- bytes have at most one first line at fault, of one kind
abbrev pub FaultsAreSingle : Type 0
FaultsAreSingle = (bytes : List ℕ) (k l : LineKind) (m n : ℕ) → IsFirstFault bytes k m → IsFirstFault bytes l n
    → (k ≡ l) × (m ≡ n)

-- what is written of a line within the limits, with the signs that it asks, says it
abbrev pub WrittenLinesSayTheirItem : Type 0
WrittenLinesSayTheirItem = (i : LineItem) → IsProper i → IsWithin i → IsLine (item_line i) i

-- the lines that are written of an answer within the limits, with the signs and counts that it asks, are its report
abbrev pub WrittenLinesAreReports : Type 0
WrittenLinesAreReports = (a : Answer) → IsAnswerCounted a → AllByRecursion (λ i. IsProper i × IsWithin i) (answer_items a)
    → IsReport (lines_bytes false (answer_lines a)) a

-- what is written of a line spells it, where each number is below 10^64 and its numbers tell a step or a goal
abbrev pub ShortLinesSpellTheirItem : Type 0
ShortLinesSpellTheirItem = (i : LineItem) → IsTold i → HasShortNumbers i → IsSpelled (item_line i) i

-- the lines that are written of an answer of such lines are its text, and that of no other answer
abbrev pub ShortLinesAreTexts : Type 0
ShortLinesAreTexts = (a : Answer) → IsAnswerCounted a → AllByRecursion (λ i. IsTold i × HasShortNumbers i) (answer_items a)
    → IsText (lines_bytes false (answer_lines a)) a × ((b : Answer) → IsText (lines_bytes false (answer_lines a)) b → b ≡ a)
