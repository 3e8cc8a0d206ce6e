use Rattle.ps_pb.proofs.Covering.{covers-slack, covers-violated, forced-stay, forced-set}
use Rattle.ps_pb.proofs.laws.propagation_is_monotone.Goals as goal

pub returns-clause-slack : goal.returns-clause-slack
returns-clause-slack c = covers-slack

pub returns-clause-violated : goal.returns-clause-violated
returns-clause-violated c = covers-violated

pub returns-clause-forced : goal.returns-clause-forced
returns-clause-forced c = forced-stay

pub returns-clause-set : goal.returns-clause-set
returns-clause-set c = forced-set
