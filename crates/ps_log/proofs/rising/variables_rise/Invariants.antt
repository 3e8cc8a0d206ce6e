use Rattle.std.proofs.Common.{option_copied}
use Rattle.ps_log.specs.Numbers.{left_of}
use Rattle.ps_log.proofs.Comparing.{RisesSoFar}
use Rattle.ps_log.proofs.rising.variables_rise.Given as goal

abbrev pub invariant-loop-rest : goal.invariant-loop-rest
invariant-loop-rest l = RisesSoFar l.text l.last (option_copied l.rest)

abbrev pub decreases-loop-rest : goal.decreases-loop-rest
decreases-loop-rest l = left_of (option_copied l.rest)
