use Rattle.std.specs.Prelude.{IfSome}
use Rattle.ps_ask.specs.Details.{IsDualFor}
use Rattle.ps_ask.proofs.lean.lean_dual.Given as goal

abbrev pub invariant-loop-place : goal.invariant-loop-place
invariant-loop-place g l = IfSome l.least (IsDualFor l.trials l.side l.query l.value)
