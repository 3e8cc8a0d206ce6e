use Rattle.std.proofs.Common.{subst}
use Rattle.ps_log.specs.GoalNumbers.{TellsRising}
use Rattle.ps_log.specs.Spellings.{words_of}
use Rattle.ps_log.proofs.GoalAnswers.{not-rising}
use Rattle.ps_log.proofs.LongTexts.{goal-past}
use Rattle.ps_log.proofs.long_lines.long_goal.Goals as goal

pub returns-then-variables_rise : goal.returns-then-variables_rise
returns-then-variables_rise c =
    let p = goal-past c.args.line.now c.args.text.now c.requires.text c.requires.long (c.spells_goal.ensures.0 c.if-not-spells_goal.false)
    (subst (λ b. TellsRising (words_of c.args.text.now) b) c.if-variables_rise.true c.variables_rise.ensures) in (p.of, p.text, p.past)

pub returns-else-variables_rise : goal.returns-else-variables_rise
returns-else-variables_rise c =
    not-rising c.args.line.now c.args.text.now c.requires.text (subst (λ b. TellsRising (words_of c.args.text.now) b) c.if-variables_rise.false c.variables_rise.ensures)
