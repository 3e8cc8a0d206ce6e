use Rattle.std.proofs.Common.{◌≡◌, take}
use Rattle.ps_wcnf.specs.Valued.{always}
use Rattle.ps_wcnf.proofs.base.always.Given as goal

abbrev pub invariant-loop-clause : goal.invariant-loop-clause
invariant-loop-clause l = l.sum ≡ always (take l.clause-index l.soft)
