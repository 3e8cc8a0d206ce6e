use Rattle.ps_max_text.proofs.Passing.{only_goal}
use Rattle.ps_max_text.proofs.reading.goal.Goals as goal

pub unreachable-requires : goal.unreachable-requires
unreachable-requires c = only_goal c.in_ok-goal.field-0 c.in_ok-goal.ensures.fits c.in_default.not-GoalLine
