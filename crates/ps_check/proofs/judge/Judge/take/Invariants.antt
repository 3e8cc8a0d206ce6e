use Rattle.std.proofs.Common.{length}
use Rattle.ps_check.specs.Judging.{HasPassed}
use Rattle.ps_check.proofs.judge.Judge.take.Given as goal

abbrev pub invariant-loop-line : goal.invariant-loop-line
invariant-loop-line l = HasPassed l.piece l.initial.self l.left l.self

abbrev pub decreases-loop-line : goal.decreases-loop-line
decreases-loop-line l = length l.left
