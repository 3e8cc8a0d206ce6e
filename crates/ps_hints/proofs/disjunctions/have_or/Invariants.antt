use Rattle.std.proofs.Common.{◌≡◌, length, map, take}
use Rattle.ps_formula.specs.Nodes.{trees}
use Rattle.ps_hints.specs.Warnings.{has_or}
use Rattle.ps_hints.proofs.disjunctions.have_or.Given as goal

abbrev pub invariant-loop-node : goal.invariant-loop-node
invariant-loop-node l = record {
  so_far : l.ors.items ≡ map has_or (trees (take l.node-index l.nodes));
  len : length l.ors.items ≡ l.node-index;
}
