use Rattle.ps_read.proofs.Steps.{waits_first}
use Rattle.ps_read.proofs.reader.Reader.new.Goals as goal

pub returns-clause-waits : goal.returns-clause-waits
returns-clause-waits c = waits_first _ c.new.ensures c.new-2.ensures.machine
