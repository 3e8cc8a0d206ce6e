use Rattle.std.proofs.Common.{subst}
use Rattle.ps_log.specs.Numbers.{AreRead, AreParts, HasParts}
use Rattle.ps_log.proofs.StepAnswers.{no-start, no-parts, step-answer}
use Rattle.ps_log.proofs.step_reader.step_of.Goals as goal

pub returns-in-None : goal.returns-in-None
returns-in-None c = no-start c.args.line.now c.in-None.ensures.none

pub returns-in-Some-of : goal.returns-in-Some-of
returns-in-Some-of c =
    step-answer c.args.line.now c.in-Some.text.now c.in-Some-2.numbers c.in-Some-of.parts.id c.in-Some-of.parts.lits.now c.in-Some-of.parts.hints.now c.step.result
    c.in-Some.ensures.found (subst (AreRead c.in-Some.text.now) c.in-Some-2.is c.in_ok-numbers.ensures)
    (subst (λ ns. AreParts ns c.in-Some-of.parts.id c.in-Some-of.parts.lits.now c.in-Some-of.parts.hints.now) c.as_slice.ensures c.in-Some-of.ensures.found)
    c.step.ensures

pub returns : goal.returns
returns c =
    no-parts c.args.line.now c.in-Some.text.now c.in-Some-2.numbers c.in-Some.ensures.found (subst (AreRead c.in-Some.text.now) c.in-Some-2.is c.in_ok-numbers.ensures)
    (subst (λ ns. HasParts ns → ⊥) c.as_slice.ensures c.in-None-of.ensures.none)
