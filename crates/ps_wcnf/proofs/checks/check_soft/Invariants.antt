use Rattle.std.proofs.Common.{take}
use Rattle.std.specs.List.{All}
use Rattle.ps_wcnf.specs.Limits.{AreLiterals}
use Rattle.ps_wcnf.proofs.checks.check_soft.Given as goal

abbrev pub invariant-loop-clause : goal.invariant-loop-clause
invariant-loop-clause l = All (λ s. AreLiterals s.1) (take l.clause-index l.soft)
