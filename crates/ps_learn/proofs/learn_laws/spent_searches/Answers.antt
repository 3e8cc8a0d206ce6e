use Rattle.ps_learn.proofs.Hints.{spent-few, spent-unrefuted}
use Rattle.ps_learn.proofs.learn_laws.spent_searches.Goals as goal

pub returns-clause-few : goal.returns-clause-few
returns-clause-few c = spent-few

pub returns-clause-unrefuted : goal.returns-clause-unrefuted
returns-clause-unrefuted c = spent-unrefuted
