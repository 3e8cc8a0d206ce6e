-- The literals of a combination are of the nodes' variables.
use Rattle.std.proofs.Common.{◌≡◌, ℕ, length, All, sym, ap, subst}
use Rattle.ps_pb.proofs.Full.{Below}
use Rattle.ps_claims.specs.declared.claim_kind.ClaimKind.{ClaimKind}
use Rattle.ps_claims.specs.Goals.{combination_of}
use Rattle.ps_claims.proofs.Variables.{combination_below}
use Rattle.ps_answer.specs.declared.answer.Dual as answered
use Rattle.ps_problem.specs.Problems.{AreParts}
use Rattle.ps_problem.specs.Rows.{rows_in}
use Rattle.ps_problem.proofs.BoundRows.{are-rows}
use Rattle.ps_maxsat.specs.declared.problem.Wcnf.{Wcnf}
use Rattle.ps_maxsat.specs.Limits.{IsSoftWithin}
use Rattle.ps_runs.specs.Subjects.{Subject, IsAsked, given_in, both_in}
use Rattle.ps_runs.proofs.Asked.{given_there, both_there}
use Rattle.ps_pricing.specs.Pricings.{IsWcnf}

pub soft_within : (kind : ClaimKind) (s : Subject) (d : answered.Dual) (p : Wcnf) → AreParts s.parts → IsAsked kind s.parts s.query → IsWcnf kind s d p → IsSoftWithin p
soft_within kind s d p are asked is =
    let ns = s.parts.nodes in
    let below : All (Below (length ns)) (combination_of kind (given_in s.query) (both_in s.query) (rows_in s.parts.sentences) (record { top = d.top; head = d.head; rows = d.rows; steps = d.steps })).terms =
    combination_below kind ns (given_in s.query) (both_in s.query) (rows_in s.parts.sentences) (record { top = d.top; head = d.head; rows = d.rows; steps = d.steps })
    (are-rows ns s.parts.sentences are.bounds) (given_there kind s.parts s.query asked) (both_there kind s.parts s.query asked) in
    let variables : p.hard.variables ≡ length ns = ap (λ f. f.variables) is.hard in
    subst (λ (n : ℕ). All (Below n) p.soft) (sym variables) (subst (All (Below (length ns))) (sym is.soft) below)
