use Rattle.ps_wcnf.proofs.Digits.{IsCounted}
use Rattle.ps_wcnf.proofs.spelling.count.Given as goal

abbrev pub invariant-loop-byte : goal.invariant-loop-byte
invariant-loop-byte l = IsCounted l.word l.byte-index l.value
