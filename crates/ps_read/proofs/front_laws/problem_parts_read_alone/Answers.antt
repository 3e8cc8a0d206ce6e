use Rattle.ps_read.proofs.Alone.{read_alone}
use Rattle.ps_read.proofs.front_laws.problem_parts_read_alone.Goals as goal

pub returns : goal.returns
returns c = read_alone
