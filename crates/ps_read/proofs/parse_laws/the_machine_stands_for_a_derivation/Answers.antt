use Rattle.ps_read.proofs.Next.{followed}
use Rattle.ps_read.proofs.parse_laws.the_machine_stands_for_a_derivation.Goals as goal

pub returns-clause-next : goal.returns-clause-next
returns-clause-next c = followed
