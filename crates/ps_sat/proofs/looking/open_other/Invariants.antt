use Rattle.std.proofs.Common.{◌≡◌, drop}
use Rattle.ps_pb.specs.Weights.{terms_of}
use Rattle.ps_sat.specs.Looks.{some_new}
use Rattle.ps_sat.proofs.looking.open_other.Given as goal

abbrev pub invariant-loop-term : goal.invariant-loop-term
invariant-loop-term l = some_new l.a l.other (terms_of l.term-items) ≡ some_new l.a l.other (terms_of (drop l.term-index l.term-items))
