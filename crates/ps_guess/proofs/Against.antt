-- The goal that a combination is at least 1, and a world that a search for it finds.
use Rattle.std.proofs.Common.{◌≡◌, ℕ, pos, ◌-ℤ◌, ◌≤ℤ◌, Bool, Option, Result, Ok, Err, IfOk, List, length, sym, subst, arith}
use Rattle.std.proofs.lemmas.Int.{ints}
use Rattle.ps_meaning.specs.Formula.{World}
use Rattle.ps_pb.specs.Assignments.{Assignment}
use Rattle.ps_pb.specs.Constraints.{Constraint, IsMet}
use Rattle.ps_pb.proofs.Linear.{met-weight}
use Rattle.ps_pb.proofs.Within.{constraint-within}
use Rattle.ps_clause.specs.Clauses.{clause_form}
use Rattle.ps_clause.specs.Forms.{form_of, IsWithin}
use Rattle.ps_clause.specs.Extensions.{extension, world_of}
use Rattle.ps_clause.proofs.Idle.{form-clauses}
use Rattle.ps_clause.proofs.Extends.{met-extension}
use Rattle.ps_clause.proofs.Worlds.{world_of-agrees}
use Rattle.ps_problem.specs.declared.query.Query.{Query}
use Rattle.ps_problem.specs.Problems.{Parts, AreParts}
use Rattle.ps_problem.specs.Rows.{rows_in}
use Rattle.ps_problem.proofs.BoundRows.{are-rows}
use Rattle.ps_answer.specs.declared.answer.Dual.{Dual}
use Rattle.ps_io.specs.declared.no_memory.NoMemory.{NoMemory}
use Rattle.ps_claims.specs.Certificates.{dual_of}
use Rattle.ps_claims.proofs.Variables.{combination_below}
use Rattle.ps_runs.specs.Subjects.{IsAsked, given_in, both_in}
use Rattle.ps_runs.proofs.Asked.{given_there, both_there}
use Rattle.ps_claims.specs.declared.claim_kind.ClaimKind.{ClaimKind}
use Rattle.ps_claims.specs.declared.weighted_sum.Combination.{Combination}
use Rattle.ps_claims.specs.Goals.{goal_of, value_under}
use Rattle.ps_sat.specs.Searches.{IsOutcome}
use Rattle.ps_sat.specs.declared.searching.Outcome.TheVariants.{Found}
use Rattle.ps_guess.specs.Trials.{combined, IsAssigned, IsAgainst}

-- a full assignment that meets the goal of a combination gives it at least 1
met_value : (w : List Bool) (c : Combination) (goal : Constraint) → goal ≡ goal_of c → IsMet w goal → pos 1 ≤ℤ value_under w c
met_value w c goal same met =
    let above = met-weight w c.terms (pos 1 -ℤ c.base) (subst (IsMet w) same met) in
    omega (arith, ints, above)

pub found_against : (p : Parts) (kind : ClaimKind) (query : Option Query) (d : Dual) (conflicts : ℕ) (a : Assignment) (goal : Constraint) (u : World) → AreParts p
    → goal ≡ goal_of (combined p kind query d) → IsOutcome (form_of p.nodes) goal conflicts (Found a) → length u ≡ length p.names → IsAssigned p a u → IsAgainst p kind query d u
found_against p kind query d conflicts a goal u are same out long of_world =
    let ns = p.nodes in
    let w = out.0 in
    let world : u ≡ world_of (length p.names) ns w = of_world w out.1 in
    let ext : w ≡ extension ns (world_of (length p.names) ns w) =
    met-extension ns w (world_of (length p.names) ns w) are.nodes out.2 (world_of-agrees (length p.names) ns w are.nodes are.atoms) (form-clauses w (clause_form ns) out.3) in
    let at : w ≡ extension ns u = subst (λ (x : World). w ≡ extension ns x) (sym world) ext in
    record {
      sized = long;
      above = subst (λ (v : List Bool). pos 1 ≤ℤ value_under v (combined p kind query d)) at (met_value w (combined p kind query d) goal same out.4);
    }

-- the goal of a combination is one of the nodes' variables
pub goal_within : (p : Parts) (kind : ClaimKind) (query : Option Query) (d : Dual) (r : Result Constraint NoMemory) → AreParts p → IsAsked kind p query
    → IfOk r (λ c. c ≡ goal_of (combined p kind query d)) → IfOk r (IsWithin (length p.nodes))
goal_within p kind query d (Err e) are asked value = tt
goal_within p kind query d (Ok c) are asked value =
    let below = combination_below kind p.nodes (given_in query) (both_in query) (rows_in p.sentences) (dual_of d) (are-rows p.nodes p.sentences are.bounds) (given_there kind p query asked) (both_there kind p query asked) in
    subst (IsWithin (length p.nodes)) (sym value) (constraint-within (length p.nodes) (combined p kind query d).terms (pos 1 -ℤ (combined p kind query d).base) below)
