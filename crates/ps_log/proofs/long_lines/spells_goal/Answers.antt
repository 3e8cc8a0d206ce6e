use Rattle.std.proofs.Common.{true≢false, sym}
use Rattle.ps_log.proofs.LongTexts.{goal-none}
use Rattle.ps_log.proofs.long_lines.spells_goal.Goals as goal

pub returns-in-None : goal.returns-in-None
returns-in-None c = (λ t. absurd (true≢false (sym t)), λ s. absurd (goal-none c.args.text.now c.in-None.ensures.none s))
