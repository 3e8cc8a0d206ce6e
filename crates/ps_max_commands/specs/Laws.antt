-- Laws of the commands on weighted clauses.
use Rattle.std.specs.Prelude.{ℕ, ◌≡◌, ◌++◌, ◌∷◌, [], ◌⊎◌, List, codes}
use Rattle.ps_messages.specs.Lines.{Output}
use Rattle.ps_wcnf.specs.Readings.{IsRead}
use Rattle.ps_wcnf.specs.Splitting.{lines_of}
use Rattle.ps_wcnf.specs.declared.text.WcnfText.{WcnfText}
use Rattle.ps_max_commands.specs.Due.{DueCheckMaxSat, DueMaxSat, IsAnswered}
use Rattle.ps_max_commands.specs.Lines.{accepted_line}

-- where an answer is judged one output is due
abbrev pub OneCheckIsDue : Type 0
OneCheckIsDue = (bytes : List ℕ) (o p : Output) → DueCheckMaxSat bytes o → DueCheckMaxSat bytes p → o ≡ p

-- where no clauses are read one output is due
abbrev pub OneUnreadIsDue : Type 0
OneUnreadIsDue = (conflicts : ℕ) (bytes : List ℕ) (o p : Output) → ((t : WcnfText) → ¬ IsRead (lines_of bytes) t)
    → DueMaxSat conflicts bytes o → DueMaxSat conflicts bytes p → o ≡ p

-- clauses, a line feed and an answer that is due for them are accepted
abbrev pub AnswersAreAccepted : Type 0
AnswersAreAccepted = (conflicts : ℕ) (bytes : List ℕ) (o : Output) (h : IsAnswered conflicts bytes o)
    → DueCheckMaxSat (bytes ++ (codes "\n" ++ o.text)) (accepted_line h.answer)

-- there are no bytes, or they end with a line feed
abbrev pub EndsWhole : List ℕ → Type 0
EndsWhole bytes = (bytes ≡ []) ⊎ ((front : List ℕ) × (bytes ≡ front ++ 10 ∷ []))

-- so are clauses that end with a line feed, or none, and an answer that is due for them
abbrev pub WholeAnswersAreAccepted : Type 0
WholeAnswersAreAccepted = (conflicts : ℕ) (bytes : List ℕ) (o : Output) (h : IsAnswered conflicts bytes o)
    → EndsWhole bytes → DueCheckMaxSat (bytes ++ o.text) (accepted_line h.answer)
