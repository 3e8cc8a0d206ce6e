use Rattle.ps_reader.proofs.Rests.{goal_only}
use Rattle.ps_reader.proofs.causes.goal.Goals as goal

pub unreachable-requires : goal.unreachable-requires
unreachable-requires c = goal_only _ c.in_ok-goal.ensures.fits c.in_default.not-GoalLine
