use Rattle.std.proofs.Common.{◌≡◌, ℕ, List, map, drop}
use Rattle.ps_formula.specs.declared.node.Node.{Node}
use Rattle.ps_formula.specs.Nodes.{trees}
use Rattle.ps_hints.specs.Warnings.{has_atom, stands_in_terms}
use Rattle.ps_hints.proofs.mentions.stands_in_terms.Given as goal

abbrev pub invariant-loop-term : goal.invariant-loop-term
invariant-loop-term l = (a : ℕ) (ns : List Node) → l.marks ≡ map (has_atom a) (trees ns) → stands_in_terms a ns l.terms ≡ stands_in_terms a ns (drop l.term-index l.terms)
