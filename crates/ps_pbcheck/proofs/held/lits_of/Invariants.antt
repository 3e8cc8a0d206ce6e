use Rattle.std.proofs.Common.{◌≡◌, take, map}
use Rattle.ps_pb.specs.Weights.{weighted}
use Rattle.ps_pbcheck.proofs.held.lits_of.Given as goal

abbrev pub invariant-loop-term : goal.invariant-loop-term
invariant-loop-term l = l.lits ≡ map (λ t. t.0) (take l.term-index (weighted l.c.terms))
