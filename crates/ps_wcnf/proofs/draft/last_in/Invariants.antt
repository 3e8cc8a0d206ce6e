use Rattle.std.proofs.Common.{◌≡◌, ◌≤◌, drop, max}
use Rattle.ps_wcnf.specs.Limits.{last_in}
use Rattle.ps_wcnf.proofs.draft.last_in.Given as goal

abbrev pub invariant-loop-lit : goal.invariant-loop-lit
invariant-loop-lit l = (max l.last (last_in (drop l.lit-index l.lits)) ≡ last_in l.lits) × (l.last ≤ 1024)
