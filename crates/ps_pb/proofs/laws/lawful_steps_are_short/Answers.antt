use Rattle.ps_pb.proofs.Short.{lawful-different, within-more, lawful-short}
use Rattle.ps_pb.proofs.laws.lawful_steps_are_short.Goals as goal

pub returns-clause-different : goal.returns-clause-different
returns-clause-different c = lawful-different

pub returns-clause-within : goal.returns-clause-within
returns-clause-within c = within-more

pub returns-clause-short : goal.returns-clause-short
returns-clause-short c = lawful-short
