use Rattle.std.proofs.Common.{ℕ, drop}
use Rattle.ps_maxsat.proofs.Multiples.{IsUnitFrom}
use Rattle.ps_maxsat.specs.Spacing.{IsUnit}
use Rattle.ps_maxsat.proofs.spacing.unit_of.Given as goal

abbrev pub invariant-loop-term : goal.invariant-loop-term
invariant-loop-term l = (g : ℕ) → IsUnitFrom l.unit (drop l.term-index l.soft) g → IsUnit l.soft g
