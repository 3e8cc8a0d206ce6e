use Rattle.std.proofs.Common.{◌≡◌, length, map, take}
use Rattle.ps_formula.specs.Nodes.{trees}
use Rattle.ps_hints.specs.Warnings.{has_atom}
use Rattle.ps_hints.proofs.mentions.have_atom.Given as goal

abbrev pub invariant-loop-node : goal.invariant-loop-node
invariant-loop-node l = record {
  so_far : l.marks.items ≡ map (has_atom l.atom) (trees (take l.node-index l.nodes));
  len : length l.marks.items ≡ l.node-index;
}
