use Rattle.std.proofs.Common.{take}
use Rattle.std.specs.List.{All}
use Rattle.ps_wcnf.specs.Limits.{AreLiterals}
use Rattle.ps_wcnf.proofs.checks.check_hard.Given as goal

abbrev pub invariant-loop-lits : goal.invariant-loop-lits
invariant-loop-lits l = All AreLiterals (take l.lits-index l.hard)
