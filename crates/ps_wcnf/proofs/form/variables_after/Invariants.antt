use Rattle.std.proofs.Common.{◌≡◌, take}
use Rattle.ps_wcnf.specs.Valued.{variables_after}
use Rattle.ps_wcnf.proofs.form.variables_after.Given as goal

abbrev pub invariant-loop-clause : goal.invariant-loop-clause
invariant-loop-clause l = l.n ≡ variables_after l.first (take l.clause-index l.soft)
