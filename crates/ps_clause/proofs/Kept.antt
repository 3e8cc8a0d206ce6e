-- What a clause form keeps as it is made and as clauses are added.
use Rattle.std.proofs.Common.{◌≡◌, ℕ, ◌<◌, ◌≤◌, ℤ, Bool, Result, Ok, Err, List, [], ◌∷◌, ◌++◌, length, map, OnOk, OnErr, arith}
use Rattle.std.specs.List.{All}
use Rattle.std.proofs.lemmas.List.{length-append}
use Rattle.ps_formula.specs.declared.node.Node.{Node}
use Rattle.ps_formula.specs.Nodes.{AreNodes}
use Rattle.ps_pb.specs.Assignments.{place, AreDifferent}
use Rattle.ps_pb.specs.Constraints.{Constraint}
use Rattle.ps_pb.specs.Weights.{clause_of}
use Rattle.ps_pb.specs.declared.limits.TheConstants.{MOST_VARIABLES}
use Rattle.ps_clause.specs.Clauses.{clause_form}
use Rattle.ps_clause.specs.Forms.{form_over, is_other}
use Rattle.ps_clause.proofs.Deciding.{nodes_decided, more_decided}
use Rattle.ps_clause.proofs.Inside.{nodes-clauses, clause-more}
use Rattle.ps_clause.specs.Limits.{most_clauses}
use Rattle.ps_clause.specs.Kept.{IsKept}
use Rattle.ps_clause.proofs.Nodes.{form_length}

pub kept-nodes : (ns : List Node) (variables : ℕ) (others : List Bool) (clauses : List Constraint) → AreNodes ns → length ns ≤ MOST_VARIABLES
    → variables ≡ length ns → others ≡ map is_other ns → clauses ≡ map clause_of (clause_form ns) → IsKept (form_over variables others clauses)
kept-nodes ns variables others clauses are h v o c =
    rw (v, o, c) (record { most = h; few = omega (arith, h, form_length ns); decided = nodes_decided ns are; clauses = nodes-clauses ns are })

-- after a clause was added, or wasn't
pub kept-added : {E : Type 0} (r : Result (Unit {0}) E) (variables : ℕ) (others : List Bool) (old new : List Constraint) (c : Constraint) (lits : List ℤ)
    → OnOk r (new ≡ old ++ c ∷ []) → OnErr r (new ≡ old) → c ≡ clause_of lits → All (λ l. place l < variables) lits → AreDifferent lits → length old < most_clauses
    → IsKept (form_over variables others old) → IsKept (form_over variables others new)
kept-added (Ok u) variables others old new c lits ok err is within different room h =
    rw (ok, is) (record {
      most = h.most;
      few = omega (arith, room, length-append old (clause_of lits ∷ []));
      decided = more_decided (form_over variables others old) (clause_of lits) h.decided;
      clauses = clause-more (form_over variables others old) lits h.clauses within different;
    })
kept-added (Err e) variables others old new c lits ok err is within different room h = rw err h
