use Rattle.std.proofs.Common.{◌≡◌, take, map}
use Rattle.ps_pb.specs.Weights.{clause_of}
use Rattle.ps_clause.specs.Clauses.{clause_form}
use Rattle.ps_clause.proofs.clauses.clauses_of_nodes.Given as goal

abbrev pub invariant-loop-x : goal.invariant-loop-x
invariant-loop-x l = l.clauses ≡ map clause_of (clause_form (take l.x l.nodes))
