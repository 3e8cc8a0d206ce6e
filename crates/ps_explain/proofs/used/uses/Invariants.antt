use Rattle.std.proofs.Common.{◌≡◌, ◌+◌, ◌-◌, drop}
use Rattle.ps_explain.specs.Used.{has_other}
use Rattle.ps_explain.proofs.used.uses.Given as goal

abbrev pub invariant-loop-at : goal.invariant-loop-at
invariant-loop-at l = has_other (l.place + l.bounds - l.at) (drop l.at l.rows) ≡ has_other l.bounds (drop l.place l.rows)
