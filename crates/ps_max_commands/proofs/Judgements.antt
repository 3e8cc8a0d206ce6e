-- What is due for an answer, by what its check returns.
use Rattle.std.proofs.Common.{◌≡◌, ◌≢◌, Option, Some, None, Err, refl, sym, ap, ◌∙◌}
use Rattle.ps_valid.specs.declared.refusal.Accepted.{Accepted}
use Rattle.ps_wcnf.specs.declared.text.WcnfText.{WcnfText}
use Rattle.ps_max_answer.specs.Answers.{fault_of, AnswersMax, IsCounted, IsShown}
use Rattle.ps_max_answer.specs.declared.answer.MaxAnswer.{MaxAnswer}
use Rattle.ps_max_answer.specs.declared.answer.MaxAnswer.TheVariants.{Optimum, Unsatisfiable, Open}
use Rattle.ps_max_answer.specs.declared.max_error.MaxError.{MaxError}
use Rattle.ps_max_answer.specs.declared.max_error.MaxError.TheVariants.{WrongShape, HardMissed, CostWrong, StepRefused, NotRefuted, NoMemory}
use Rattle.ps_messages.specs.Lines.{Output, accepted}
use Rattle.ps_max_commands.specs.Lines.{accepted_line, judged_as, IsRefusal}
use Rattle.ps_max_commands.specs.Due.{IsJudgedBy}

-- the counts of an accepted answer are its own
counted : (a : MaxAnswer) (counts : Accepted) → IsCounted a counts → accepted counts.claims counts.unfinished ≡ accepted_line a
counted (Open limit goal steps best) counts h = ap (λ n. accepted n counts.unfinished) h.0 ∙ ap (accepted 0) h.1
counted (Optimum c w steps) counts h = ap (λ n. accepted n counts.unfinished) h.0 ∙ ap (accepted 1) h.1
counted (Unsatisfiable steps) counts h = ap (λ n. accepted n counts.unfinished) h.0 ∙ ap (accepted 1) h.1

pub accepted_due : (t : WcnfText) (a : MaxAnswer) (counts : Accepted) (o : Output) → fault_of t a ≡ None → IsShown t a → IsCounted a counts
    → o ≡ accepted counts.claims counts.unfinished → IsJudgedBy t a o
accepted_due t a counts o none shown count is = record {
  is = is ∙ counted a counts count ∙ ap (λ f. judged_as f a) (sym none);
  right = λ e. shown;
}

fault_is : (o : Option MaxError) (e : MaxError) → AnswersMax {A = Accepted} o (Err e) → e ≢ NoMemory → o ≡ Some e
fault_is o WrongShape h not = h
fault_is o (HardMissed n) h not = h
fault_is o CostWrong h not = h
fault_is o (StepRefused step why) h not = h
fault_is o NotRefuted h not = h
fault_is o NoMemory h not = absurd (not refl)

some_fault : (e : MaxError) → Some e ≡ None → ⊥
some_fault e h = cc

pub refused_due : (t : WcnfText) (a : MaxAnswer) (e : MaxError) (o : Output) → AnswersMax {A = Accepted} (fault_of t a) (Err e) → IsRefusal e o → IsJudgedBy t a o
refused_due t a e o h r =
    let fault = fault_is (fault_of t a) e h r.other in
    record {
      is = r.is ∙ ap (λ f. judged_as f a) (sym fault);
      right = λ none. absurd (some_fault e (sym fault ∙ none));
    }
