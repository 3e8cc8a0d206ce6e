use Rattle.std.proofs.Common.{subst}
use Rattle.ps_log.specs.Spellings.{words_of}
use Rattle.ps_log.specs.Numbers.{AreRead}
use Rattle.ps_log.specs.GoalNumbers.{AreGoalParts, HasGoalParts, TellsRising}
use Rattle.ps_log.proofs.GoalAnswers.{no-start, no-parts, not-rising, goal-answer}
use Rattle.ps_log.proofs.goal_reader.goal_of.Goals as goal

pub returns-in-None : goal.returns-in-None
returns-in-None c = no-start c.args.line.now c.in-None.ensures.none

pub returns-in-None-of : goal.returns-in-None-of
returns-in-None-of c =
    no-parts c.args.line.now c.in-Some.text.now c.in-Some-2.numbers c.in-Some.ensures.found (subst (AreRead c.in-Some.text.now) c.in-Some-2.is c.in_ok-numbers.ensures)
    (subst (λ ns. HasGoalParts ns → ⊥) c.as_slice.ensures c.in-None-of.ensures.none)

pub returns-then-not-variables_rise : goal.returns-then-not-variables_rise
returns-then-not-variables_rise c =
    not-rising c.args.line.now c.in-Some.text.now c.in-Some.ensures.found (subst (λ b. TellsRising (words_of c.in-Some.text.now) b) c.if-not-variables_rise.true c.variables_rise.ensures)

pub returns : goal.returns
returns c =
    goal-answer c.args.line.now c.in-Some.text.now c.in-Some-2.numbers c.in-Some-of.parts.degree c.in-Some-of.parts.terms.now c.goal.result
    c.in-Some.ensures.found (subst (AreRead c.in-Some.text.now) c.in-Some-2.is c.in_ok-numbers.ensures)
    (subst (λ ns. AreGoalParts ns c.in-Some-of.parts.degree c.in-Some-of.parts.terms.now) c.as_slice.ensures c.in-Some-of.ensures.found)
    (subst (λ b. TellsRising (words_of c.in-Some.text.now) b) c.if-not-variables_rise.false c.variables_rise.ensures)
    c.goal.ensures
