use Rattle.std.proofs.Common.{take, ◌≤◌, unsigned_abs}
use Rattle.std.specs.List.{All}
use Rattle.ps_wcnf.proofs.checks.check_literals.Given as goal

abbrev pub invariant-loop-lit : goal.invariant-loop-lit
invariant-loop-lit l = All (λ l. 1 ≤ unsigned_abs l) (take l.lit-index l.lits)
