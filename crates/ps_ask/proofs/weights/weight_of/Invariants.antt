use Rattle.std.proofs.Common.{◌≡◌, take}
use Rattle.ps_meaning.specs.Distribution.{weight}
use Rattle.ps_problem.specs.Problems.{tree_at}
use Rattle.ps_claims.specs.Certificates.{entries}
use Rattle.ps_ask.proofs.weights.weight_of.Given as goal

abbrev pub invariant-loop-weighted : goal.invariant-loop-weighted
invariant-loop-weighted l = l.sum ≡ weight (entries (take l.weighted-index l.worlds)) (tree_at l.problem.nodes l.node)
