use Rattle.std.proofs.Common.{◌≡◌, map, take}
use Rattle.ps_problem.specs.Problems.{name_at}
use Rattle.ps_first_order.specs.FirstOrder.{constant_of}
use Rattle.ps_ground.specs.Grounding.{atom_name}
use Rattle.ps_first_order.specs.Parts.{term_of}
use Rattle.ps_ground.specs.GroundParts.{assignment_in}
use Rattle.ps_ground.proofs.marks.atom.Given as goal

abbrev pub invariant-loop-term : goal.invariant-loop-term
invariant-loop-term l = l.name ≡ atom_name (name_at l.parts.predicates l.predicate)
    (map (constant_of (assignment_in l.parts l.numbers)) (map (term_of l.parts) (take l.term-index l.terms)))
