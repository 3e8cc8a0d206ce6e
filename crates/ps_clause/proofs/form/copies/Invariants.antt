use Rattle.std.proofs.Common.{◌≡◌, take}
use Rattle.ps_clause.proofs.form.copies.Given as goal

abbrev pub invariant-loop-constraint : goal.invariant-loop-constraint
invariant-loop-constraint l = l.copies ≡ take l.constraint-index l.constraints
