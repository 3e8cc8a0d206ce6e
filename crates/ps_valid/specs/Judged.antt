-- What is answered of an answer: that it is accepted, or that it is refused for the first reason against its first
-- claim at fault.
use Rattle.std.specs.Prelude.{◌≡◌, List, Option, MatchOption, Result, Ok, Err, length}
use Rattle.ps_problem.specs.declared.row.Row.{Row}
use Rattle.ps_problem.specs.Problems.{Parts, AreBounds, bounds_in}
use Rattle.ps_problem.specs.Rows.{rows_in}
use Rattle.ps_answer.specs.declared.answer.Model.{Model}
use Rattle.ps_answer.specs.declared.answer.Dual.{Dual}
use Rattle.ps_answer.specs.declared.answer.Answer.{Answer}
use Rattle.ps_claims.specs.Certificates.{model_of, dual_of}
use Rattle.ps_claims.specs.Answers as claimed
use Rattle.ps_claims.specs.Duals as claimed_by
use Rattle.ps_claims.specs.declared.reason.Reason.{Reason}
use Rattle.ps_claims.specs.Claims.{Assertion, Modelled, IsValidClaim, IsFirstIn, IsRefused, claims_of, unfinished_of}
use Rattle.ps_claims.specs.Validity.{IsValid}
use Rattle.ps_valid.specs.declared.refusal.Accepted.{Accepted}
use Rattle.ps_valid.specs.declared.refusal.CheckError.{CheckError}
use Rattle.ps_valid.specs.declared.refusal.CheckError.TheVariants.{Refused, NoMemory}
use Rattle.ps_valid.specs.Answers.{answer_of}

-- the reason is the first against the claim, and there is none where it is valid
abbrev pub FindsReason : Parts → Assertion → Option Reason → Type 0
FindsReason p c found = MatchOption found (IsValidClaim p c) (IsFirstIn p c)

-- a problem has the atoms and nodes of another, and bounds over them with these rows
pub record HasRows (p : Parts) (rows : List Row) (q : Parts) : Type 0 where
  pub names : q.names ≡ p.names
  pub nodes : q.nodes ≡ p.nodes
  pub bounds : AreBounds p.nodes (bounds_in q.sentences)
  pub rows_are : rows_in q.sentences ≡ rows

-- the reason is the first against the model of each problem that has these rows over the same atoms and nodes, and
-- there is none where it is valid
abbrev pub FindsReasonOver : Parts → List Row → Model → Option Reason → Type 0
FindsReasonOver p rows m found = (q : Parts) → HasRows p rows q → FindsReason q (Modelled (model_of m)) found

-- the reason is the first against what is claimed by this model and this dual, and there is none where it is valid
abbrev pub FindsBy : Parts → (claimed.Model → claimed_by.Dual → Assertion) → Model → Dual → Option Reason → Type 0
FindsBy p claim m d found = FindsReason p (claim (model_of m) (dual_of d)) found

-- the answer is valid, and its claims and what is open in it are so many
pub record IsAccepted (p : Parts) (a : Answer) (accepted : Accepted) : Type 0 where
  pub valid : IsValid p (answer_of a)
  pub claims : accepted.claims ≡ length (claims_of p (answer_of a))
  pub unfinished : accepted.unfinished ≡ unfinished_of (answer_of a)

-- what a check answers: an answer is accepted where it is valid, and else refused for its first claim at fault
abbrev pub IsJudged : Parts → Answer → Result Accepted CheckError → Type 0
IsJudged p a (Ok accepted) = IsAccepted p a accepted
IsJudged p a (Err (Refused r)) = IsRefused p (answer_of a) r.claim r.reason
IsJudged p a (Err NoMemory) = Unit {0}
