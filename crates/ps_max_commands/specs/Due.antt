-- What is due for weighted clauses, and for an answer about them.
use Rattle.std.specs.Prelude.{ℕ, ◌≡◌, List, None, ◌⊎◌}
use Rattle.ps_answer.specs.declared.error.LineKind.{LineKind}
use Rattle.ps_max_answer.specs.Answers.{fault_of, IsShown}
use Rattle.ps_max_answer.specs.Optima.{IsFoundAnswer}
use Rattle.ps_max_answer.specs.declared.answer.MaxAnswer.{MaxAnswer}
use Rattle.ps_messages.specs.Lines.{Output, unreadable_clauses, refused_line}
use Rattle.ps_max_commands.specs.Lines.{status_of, judged_as}
use Rattle.ps_max_commands.specs.Splits.{clauses_of_input, answer_of_input}
use Rattle.ps_max_text.specs.Faults.{IsFirstFault}
use Rattle.ps_max_text.specs.Texts.{max_text, IsMaxWithin}
use Rattle.ps_wcnf.specs.Readings.{IsRead, IsFirstAtFault}
use Rattle.ps_wcnf.specs.Splitting.{lines_of}
use Rattle.ps_wcnf.specs.declared.text.WcnfText.{WcnfText}
use Rattle.ps_wcnf.specs.declared.wcnf_error.WcnfKind.{WcnfKind}

-- the bytes are a text, and what is written is the answer that a search for its optimum gives
pub record IsAnswered (conflicts : ℕ) (bytes : List ℕ) (o : Output) : Type 0 where
  pub text : WcnfText
  pub read : IsRead (lines_of bytes) text
  pub answer : MaxAnswer
  pub found : IsFoundAnswer text conflicts answer
  pub within : IsMaxWithin answer
  pub written : o.text ≡ max_text answer
  pub status : o.status ≡ status_of answer

-- a line of the bytes is the first at fault, and what is written names it
pub record IsUnread (bytes : List ℕ) (o : Output) : Type 0 where
  pub kind : WcnfKind
  pub line : ℕ
  pub fault : IsFirstAtFault (lines_of bytes) kind line
  pub is : o ≡ unreadable_clauses kind line

-- what is due where an optimum is asked
abbrev pub DueMaxSat : ℕ → List ℕ → Output → Type 0
DueMaxSat conflicts bytes o = IsAnswered conflicts bytes o ⊎ IsUnread bytes o

-- an answer is accepted where no reason is against it, and it is then right; else the first reason is named
pub record IsJudgedBy (t : WcnfText) (a : MaxAnswer) (o : Output) : Type 0 where
  pub is : o ≡ judged_as (fault_of t a) a
  pub right : fault_of t a ≡ None → IsShown t a

-- the bytes are the text of an answer within the limits, and it is judged
pub record IsJudged (t : WcnfText) (bytes : List ℕ) (o : Output) : Type 0 where
  pub answer : MaxAnswer
  pub is_text : bytes ≡ max_text answer
  pub within : IsMaxWithin answer
  pub judged : IsJudgedBy t answer o

-- a line of the answer is the first at fault, and what is written names it
pub record IsRefusedLine (bytes : List ℕ) (o : Output) : Type 0 where
  pub kind : LineKind
  pub line : ℕ
  pub fault : IsFirstFault bytes kind line
  pub is : o ≡ refused_line kind line

-- what is due for clauses and the bytes of an answer
abbrev pub DueAnswer : WcnfText → List ℕ → Output → Type 0
DueAnswer t bytes o = IsJudged t bytes o ⊎ IsRefusedLine bytes o

-- clauses are read before the answer, and the answer is judged
pub record IsCheckedText (clauses answer : List ℕ) (o : Output) : Type 0 where
  pub text : WcnfText
  pub read : IsRead (lines_of clauses) text
  pub judged : DueAnswer text answer o

-- what is due for the bytes of clauses and those of an answer
abbrev pub DueChecked : List ℕ → List ℕ → Output → Type 0
DueChecked clauses answer o = IsCheckedText clauses answer o ⊎ IsUnread clauses o

-- what is due where an answer is judged
abbrev pub DueCheckMaxSat : List ℕ → Output → Type 0
DueCheckMaxSat bytes o = DueChecked (clauses_of_input bytes) (answer_of_input bytes) o
