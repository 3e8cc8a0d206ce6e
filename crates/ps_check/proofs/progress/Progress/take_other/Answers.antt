use Rattle.ps_check.proofs.Weighed.{bound_proper}
use Rattle.ps_check.proofs.progress.Progress.take_other.Goals as goal

pub side-requires-clause-proper : goal.side-requires-clause-proper
side-requires-clause-proper c = bound_proper c.args.item.now c.in-Bound.upper c.in-Bound.value c.in-Bound.is c.requires.proper
