use Rattle.std.proofs.Common.{◌≡◌, None, replicate}
use Rattle.ps_explain.proofs.met.none_met.Given as goal

abbrev pub invariant-loop : goal.invariant-loop
invariant-loop l = l.met ≡ replicate l.counter None
