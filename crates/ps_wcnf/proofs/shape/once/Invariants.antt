use Rattle.std.proofs.Common.{◌≡◌, take}
use Rattle.ps_clause.specs.Clauses.{once}
use Rattle.ps_wcnf.proofs.shape.once.Given as goal

abbrev pub invariant-loop-lit : goal.invariant-loop-lit
invariant-loop-lit l = l.kept.items ≡ once (take l.lit-index l.lits)
