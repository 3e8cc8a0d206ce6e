use Rattle.std.proofs.Common.{option_copied}
use Rattle.ps_log.specs.Numbers.{left_of}
use Rattle.ps_wcnf.proofs.SoFar.{IsReadSoFar}
use Rattle.ps_wcnf.proofs.reading.read_wcnf.Given as goal

abbrev pub invariant-loop-rest : goal.invariant-loop-rest
invariant-loop-rest l = IsReadSoFar l.bytes (option_copied l.rest) l.draft l.number

abbrev pub decreases-loop-rest : goal.decreases-loop-rest
decreases-loop-rest l = left_of (option_copied l.rest)
