-- What holds of answers.
use Rattle.std.specs.Prelude.{ℕ, ◌≡◌, None}
use Rattle.ps_wcnf.specs.Laws.{IsWeighed}
use Rattle.ps_wcnf.specs.declared.text.WcnfText.{WcnfText}
use Rattle.ps_max_answer.specs.Answers.{IsShown, fault_of}
use Rattle.ps_max_answer.specs.Optima.{IsFoundAnswer}
use Rattle.ps_max_answer.specs.declared.answer.MaxAnswer.{MaxAnswer}

-- an answer that no reason is against is right
abbrev pub UnfaultedAreShown : Type 0
UnfaultedAreShown = (t : WcnfText) (a : MaxAnswer) → IsWeighed t → fault_of t a ≡ None → IsShown t a

-- no reason is against an answer that a search for an optimum may give
abbrev pub FoundAreUnfaulted : Type 0
FoundAreUnfaulted = (t : WcnfText) (conflicts : ℕ) (a : MaxAnswer) → IsFoundAnswer t conflicts a → fault_of t a ≡ None
