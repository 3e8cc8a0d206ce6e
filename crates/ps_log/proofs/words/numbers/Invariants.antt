use Rattle.std.proofs.Common.{option_copied}
use Rattle.ps_log.specs.Numbers.{left_of}
use Rattle.ps_log.proofs.StepLines.{ReadSoFar}
use Rattle.ps_log.proofs.words.numbers.Given as goal

abbrev pub invariant-loop-rest : goal.invariant-loop-rest
invariant-loop-rest l = ReadSoFar l.text (option_copied l.rest) l.numbers

abbrev pub decreases-loop-rest : goal.decreases-loop-rest
decreases-loop-rest l = left_of (option_copied l.rest)
