use Rattle.ps_max_commands.proofs.Accepted.{answer_accepted, whole_accepted}
use Rattle.ps_max_commands.proofs.laws.answers_are_accepted.Goals as goal

pub returns-clause-behind : goal.returns-clause-behind
returns-clause-behind c = answer_accepted

pub returns-clause-whole : goal.returns-clause-whole
returns-clause-whole c = whole_accepted
