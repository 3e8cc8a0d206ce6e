use Rattle.std.proofs.Common.{◌≡◌, drop}
use Rattle.ps_pb.specs.Weights.{terms_of}
use Rattle.ps_sat.specs.WatchChoices.{some_open}
use Rattle.ps_sat.proofs.choosing.first_open.Given as goal

abbrev pub invariant-loop-term : goal.invariant-loop-term
invariant-loop-term l = some_open l.a (terms_of l.term-items) ≡ some_open l.a (terms_of (drop l.term-index l.term-items))
