-- What is known before a refutation of a combination is of the nodes' variables, and not much.
use Rattle.std.proofs.Common.{◌+◌, ◌*◌, ◌≤◌, ℤ, List, [], ◌∷◌, ◌++◌, length, All, arith}
use Rattle.std.proofs.lemmas.List.{length-append}
use Rattle.ps_pb.specs.Constraints.{Constraint}
use Rattle.ps_pb.specs.Weights.{Weighted, constraint_of}
use Rattle.ps_pb.specs.Steps.{AreWithin}
use Rattle.ps_pb.proofs.Full.{Below}
use Rattle.ps_pb.proofs.Within.{constraint-within}
use Rattle.ps_pb.proofs.Ids.{known_of-length}
use Rattle.ps_clause.specs.Forms.{form_of, first_known}
use Rattle.ps_clause.proofs.Starts.{start-within}
use Rattle.ps_clause.proofs.Inside.{clauses-inside, nodes-clauses}
use Rattle.ps_formula.specs.Nodes.{AreNodes}
use Rattle.ps_clause.proofs.Nodes.{form_length}
use Rattle.ps_formula.specs.declared.node.Node.{Node}

-- what is known at first is of the nodes' variables
pub known_within : (ns : List Node) (ts : Weighted) (least : ℤ) → AreNodes ns → All (Below (length ns)) ts
    → AreWithin (length ns) (first_known (form_of ns) (constraint_of ts least))
known_within ns ts least are h =
    start-within (form_of ns) (constraint_of ts least) (clauses-inside (form_of ns) (nodes-clauses ns are)) (constraint-within (length ns) ts least h)

-- and at most four constraints for each node, and the goal
pub few_known : (ns : List Node) (goal : Constraint) → length (first_known (form_of ns) goal) ≤ 4 * length ns + 1
few_known ns goal =
    omega (arith, known_of-length ((form_of ns).clauses ++ goal ∷ []), length-append (form_of ns).clauses (goal ∷ []), form_length ns)
