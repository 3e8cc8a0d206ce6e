use Rattle.ps_learn.proofs.Staying.{rest-lawless}
use Rattle.ps_learn.proofs.learn_laws.nothing_follows_at_rest.Goals as goal

pub returns : goal.returns
returns c = rest-lawless
