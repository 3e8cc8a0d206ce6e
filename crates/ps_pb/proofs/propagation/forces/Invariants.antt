use Rattle.std.proofs.Common.{drop}
use Rattle.ps_pb.specs.Weights.{terms_of}
use Rattle.ps_pb.proofs.Searched.{HasForced}
use Rattle.ps_pb.proofs.propagation.forces.Given as goal

abbrev pub invariant-loop-term : goal.invariant-loop-term
invariant-loop-term l = HasForced l.slack l.lit (terms_of l.term-items) → HasForced l.slack l.lit (terms_of (drop l.term-index l.term-items))
