-- What is found over the nodes' variables, as what it says of worlds, and the ends of phases as valid claims.
use Rattle.std.proofs.Common.{◌≡◌, ℕ, ℤ, pos, ◌≤ℤ◌, neg_ℤ, Bool, Option, Some, None, List, length, sym, refl, ap, ◌∙◌, subst}
use Rattle.ps_meaning.specs.Formula.{World}
use Rattle.ps_meaning.specs.Rational.{Rational}
use Rattle.ps_simplex.specs.Rule.{IsFeasible, IsResting}
use Rattle.ps_clause.specs.Forms.{form_of, first_known, MeetsForm}
use Rattle.ps_clause.specs.Extensions.{extension}
use Rattle.ps_pb.specs.Steps.{Refutes}
use Rattle.ps_problem.specs.declared.query.Query as stored
use Rattle.ps_problem.specs.declared.row.Row.{Row}
use Rattle.ps_problem.specs.Problems.{Parts, AreParts, bounds_of}
use Rattle.ps_problem.specs.Rows.{rows_in}
use Rattle.ps_problem.proofs.BoundRows.{are-rows}
use Rattle.ps_claims.specs.Answers.{ShowsConsistent}
use Rattle.ps_claims.specs.declared.claim_kind.ClaimKind.{ClaimKind}
use Rattle.ps_claims.specs.declared.claim_kind.ClaimKind.TheVariants.{Nothing, Lower, Upper}
use Rattle.ps_claims.specs.Duals.{Dual, combination, HaveSigns}
use Rattle.ps_claims.specs.Goals.{value_under, plus, at_node, at_condition, rows_times, claimed_of, combination_of, goal_of}
use Rattle.ps_claims.specs.Rows.{problem_rows}
use Rattle.ps_claims.specs.Validity.{IsRefuted, ShowsNothing}
use Rattle.ps_claims.proofs.NodeSums.{value-nothing, value-claimed, value-combination}
use Rattle.ps_claims.proofs.ProblemRows.{problem-rows}
use Rattle.ps_claims.proofs.Refutations.{extension-meets}
use Rattle.ps_runs.specs.Programs.{RefutesGain}
use Rattle.ps_runs.specs.Rows.{phase_of, IsTable}
use Rattle.ps_runs.specs.Certificates.{table_model, HaveSameNumbers}
use Rattle.ps_runs.specs.Subjects.{Subject, setting_of, asked_in, given_in, both_in, IsAsked, atoms_of}
use Rattle.ps_runs.specs.Subjects.{combination_over, frame_of, program_of}
use Rattle.ps_runs.specs.Runs.{Stage, IsPool, table_at, dual_at, AreAtMost}
use Rattle.ps_runs.proofs.Resting.{rest_signs}
use Rattle.ps_runs.proofs.Shown.{allowed_at_end, small_at_end, nothing_head}

value_is : (kind : ClaimKind) (p : Parts) (q : Option stored.Query) (d : Dual) (w : World) → AreParts p → IsAsked kind p q
    → value_under (extension p.nodes w) (combination_of kind (given_in q) (both_in q) (rows_in p.sentences) d) ≡ combination kind (problem_rows p) (asked_in p q) d w
value_is kind p None d w are asked =
    subst (λ k. value_under (extension p.nodes w) (combination_of k None 0 (rows_in p.sentences) d) ≡ combination k (problem_rows p) (asked_in p None) d w) (sym asked)
    (value-combination Nothing p.nodes w None 0 (rows_in p.sentences) (asked_in p None) d (are-rows p.nodes p.sentences are.bounds) (value-nothing p.nodes w None 0 (asked_in p None) d tt refl))
value_is kind p (Some q) d w are has =
    value-combination kind p.nodes w q.given q.both (rows_in p.sentences) (asked_in p (Some q)) d (are-rows p.nodes p.sentences are.bounds) (value-claimed kind p.nodes w q d has)

-- the combination over the nodes has at a world's extension its value in the world
pub value_of_gain : (kind : ClaimKind) (s : Subject) (d : Dual) (w : World) → AreParts s.parts → IsAsked kind s.parts s.query
    → value_under (extension s.parts.nodes w) (combination_over kind s d) ≡ combination kind (setting_of s).rows (setting_of s).query d w
value_of_gain kind s d w are asked = value_is kind s.parts s.query d w are asked

-- what no assignment that meets the form is above, no world is above
pub most_of_gains : (kind : ClaimKind) (s : Subject) (g : Stage) (X : ℕ → ℕ → Rational) (most : ℤ) → AreParts s.parts → IsAsked kind s.parts s.query
    → ((v : List Bool) → MeetsForm v (form_of s.parts.nodes) → value_under v (combination_over kind s (dual_at (program_of kind s) g X)) ≤ℤ most)
    → AreAtMost (program_of kind s) g X most
most_of_gains kind s g X most are asked h = record {
  at = λ w long. subst (λ z. z ≤ℤ most) (value_of_gain kind s (dual_at (program_of kind s) g X) w are asked) (h (extension s.parts.nodes w) (extension-meets s.parts.nodes w are.nodes));
}

-- ---- claims
same_claim : (kind : ClaimKind) (given : Option ℕ) (both : ℕ) (d e : Dual) → HaveSameNumbers d e → claimed_of kind given both d ≡ claimed_of kind given both e
same_claim Nothing given both d e same = ap (λ h. at_condition h given) same.head
same_claim Lower given both d e same = λ i. plus (at_condition (same.head i) given) (at_node (neg_ℤ (same.top i)) both)
same_claim Upper given both d e same = λ i. plus (at_node (same.top i) both) (at_condition (neg_ℤ (same.head i)) given)

pub same_combination : (kind : ClaimKind) (given : Option ℕ) (both : ℕ) (rows : List Row) (d e : Dual) → HaveSameNumbers d e
    → combination_of kind given both rows d ≡ combination_of kind given both rows e
same_combination kind given both rows d e same = λ i. plus (same_claim kind given both d e same i) (rows_times (same.rows i) rows)

module _ (kind : ClaimKind) (s : Subject) (g : Stage) (X : ℕ → ℕ → Rational) (d : Dual) (same : HaveSameNumbers d (dual_at (program_of kind s) g X)) where
  -- steps that refute the table's goal make a dual with its numbers a refutation
  pub refuted_at_rest : IsResting (phase_of kind) (table_at (frame_of s) g X) ((program_of kind s).cost g.pool)
      → RefutesGain (program_of kind s) (dual_at (program_of kind s) g X) d.steps
      → IsRefuted s.parts kind (given_in s.query) (both_in s.query) d
  refuted_at_rest rest steps = record {
    signs = subst (HaveSigns (problem_rows s.parts)) (sym same.rows) (rest_signs kind (setting_of s) g.pool g.basis X rest);
    steps =
        subst (λ c. Refutes (length s.parts.nodes) (first_known (form_of s.parts.nodes) (goal_of c)) d.steps)
        (sym (same_combination kind (given_in s.query) (both_in s.query) (rows_in s.parts.sentences) d (dual_at (program_of kind s) g X) same)) steps;
  }

-- where phase one so rests, nothing is allowed
pub nothing_at_rest : (s : Subject) (g : Stage) (X : ℕ → ℕ → Rational) (d : Dual) → HaveSameNumbers d (dual_at (program_of Nothing s) g X)
    → IsTable (setting_of s) g.pool g.basis X → IsResting (phase_of Nothing) (table_at (frame_of s) g X) ((program_of Nothing s).cost g.pool)
    → RefutesGain (program_of Nothing s) (dual_at (program_of Nothing s) g X) d.steps
    → ShowsNothing s.parts (given_in s.query) d
nothing_at_rest s g X d same t rest steps =
    let head = nothing_head (setting_of s) g.pool g.basis X t rest.unfinished in
    let refuted = refuted_at_rest Nothing s g X d same rest steps in
    record {
      head = record { top = same.top ∙ head.top; head = subst (λ z. pos 1 ≤ℤ z) (sym same.head) head.head };
      refuted = record { signs = refuted.signs; steps = refuted.steps };
    }

-- a feasible table's model shows that the bounds are consistent
pub consistent_at_end : (s : Subject) (g : Stage) (X : ℕ → ℕ → Rational) → AreParts s.parts → IsTable (setting_of s) g.pool g.basis X → IsFeasible (table_at (frame_of s) g X) → IsPool (atoms_of s) g.pool
    → ShowsConsistent (atoms_of s) (bounds_of s.parts) (table_model (table_at (frame_of s) g X) g.pool)
consistent_at_end s g X are t feasible pooled =
    let of = problem-rows s.parts are in
    record {
      model = (allowed_at_end (bounds_of s.parts) (setting_of s) g.pool g.basis X of t (atoms_of s) feasible pooled.different pooled.sized).model;
      basic = small_at_end (bounds_of s.parts) (setting_of s) g.pool g.basis X of t;
    }
