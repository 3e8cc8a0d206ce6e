use Rattle.ps_read.proofs.OneReading.{one_reading, one_whole_reading}
use Rattle.ps_read.proofs.read_laws.bytes_have_one_reading.Goals as goal

pub returns-clause-front : goal.returns-clause-front
returns-clause-front c = one_reading

pub returns-clause-whole : goal.returns-clause-whole
returns-clause-whole c = one_whole_reading
