use Rattle.ps_log.proofs.LongTexts.{step-past}
use Rattle.ps_log.proofs.long_lines.long_step.Goals as goal

pub returns-then-spells_step : goal.returns-then-spells_step
returns-then-spells_step c =
    let p = step-past c.args.line.now c.args.text.now c.requires.text c.requires.long (c.spells_step.ensures.0 c.if-spells_step.true) in (p.of, p.text, p.past)
