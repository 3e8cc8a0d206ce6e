use Rattle.ps_valid.proofs.ClaimsInOrder.{HasAccepted}
use Rattle.ps_valid.proofs.checking.check_parts.Given as goal

abbrev pub invariant-loop-i : goal.invariant-loop-i
invariant-loop-i l = HasAccepted l.problem l.queries l.parts l.i l.all
