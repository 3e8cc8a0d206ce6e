use Rattle.ps_ground.proofs.Weighing.{asked}
use Rattle.ps_ground.proofs.Bounding.{inconsistent-together, queries-kept}
use Rattle.ps_ground.proofs.laws.bounds_over_structures_are_those_over_worlds.Goals as goal

pub returns-clause-inconsistent : goal.returns-clause-inconsistent
returns-clause-inconsistent c = inconsistent-together

pub returns-clause-asked : goal.returns-clause-asked
returns-clause-asked c = asked

pub returns-clause-queries : goal.returns-clause-queries
returns-clause-queries c = queries-kept
