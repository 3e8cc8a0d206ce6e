-- What is answered of some claims in their order.
use Rattle.std.specs.Prelude.{◌≡◌, ℕ, List, Option, MatchOption, Result, Ok, Err, length, map, sum, take, slice_get, IsSomeAnd}
use Rattle.ps_problem.specs.declared.query.Query.{Query}
use Rattle.ps_problem.specs.Problems.{Parts}
use Rattle.ps_answer.specs.declared.answer.Verdict.{Verdict}
use Rattle.ps_answer.specs.declared.answer.SideAnswer.{SideAnswer}
use Rattle.ps_answer.specs.declared.answer.QueryAnswer.{QueryAnswer}
use Rattle.ps_answer.specs.declared.answer.QueryPart.{QueryPart}
use Rattle.ps_claims.specs.Answers as claimed
use Rattle.ps_claims.specs.declared.claim_kind.ClaimKind.{ClaimKind}
use Rattle.ps_claims.specs.declared.claim.Claim.{Claim}
use Rattle.ps_claims.specs.declared.reason.Reason.{Reason}
use Rattle.ps_claims.specs.Duals.{Dual}
use Rattle.ps_claims.specs.Claims.{Assertion, verdict_claims, side_claims, part_claims, claims_from}
use Rattle.ps_claims.specs.Claims.{open_in_verdict, open_in_side, open_in_part, AreValid, IsFirstIn}
use Rattle.ps_valid.specs.declared.refusal.Refusal.{Refusal}
use Rattle.ps_valid.specs.declared.refusal.Accepted.{Accepted}
use Rattle.ps_valid.specs.declared.refusal.CheckError.{CheckError}
use Rattle.ps_valid.specs.declared.refusal.CheckError.TheVariants.{Refused, NoMemory}
use Rattle.ps_valid.specs.Answers.{verdict_of, side_of, part_of, parts_of}

-- these claims are valid, and they and what is open beside them are so many
pub record AreAccepted (p : Parts) (cs : List (Claim × Assertion)) (n : ℕ) (accepted : Accepted) : Type 0 where
  pub valid : AreValid p cs
  pub claims : accepted.claims ≡ length cs
  pub unfinished : accepted.unfinished ≡ n

-- the refusal is of the first of these claims that isn't valid, for the first reason against it
pub record IsFirstOf (p : Parts) (claims : List (Claim × Assertion)) (r : Refusal) : Type 0 where
  pub before : ℕ
  pub valid : AreValid p (take before claims)
  pub fault : IsSomeAnd (slice_get claims before) (λ c. (c.0 ≡ r.claim) × IsFirstIn p c.1 r.reason)

-- what is answered of these claims, beside which so much is open
abbrev pub AreJudged : Parts → List (Claim × Assertion) → ℕ → Result Accepted CheckError → Type 0
AreJudged p claims unfinished (Ok accepted) = AreAccepted p claims unfinished accepted
AreJudged p claims unfinished (Err (Refused r)) = IsFirstOf p claims r
AreJudged p claims unfinished (Err NoMemory) = Unit {0}

-- one claim is accepted, or refused for the reason that is found
abbrev pub IsAnswerTo : Claim → Option Reason → Result Accepted CheckError → Type 0
IsAnswerTo claim found result = MatchOption found (result ≡ Ok (record { claims = 1; unfinished = 0 })) (λ reason.
    result ≡ Err (Refused (record { claim = claim; reason = reason })))

-- what is answered of a verdict, by its claims
abbrev pub IsJudgedVerdict : Parts → Verdict → Result Accepted CheckError → Type 0
IsJudgedVerdict p v result = AreJudged p (verdict_claims (verdict_of v)) (open_in_verdict (verdict_of v)) result

-- what is answered of a side of a query, by what is claimed there
abbrev pub IsJudgedSide : Parts → Claim → ClaimKind → Query → SideAnswer → Result Accepted CheckError → Type 0
IsJudgedSide p claim kind q s result = AreJudged p (side_claims claim kind q (side_of s)) (open_in_side (side_of s)) result

-- what is answered of a part that claims so, on the query of this number
abbrev pub IsJudgedClaim : Parts → ℕ → Query → claimed.QueryAnswer Dual → Result Accepted CheckError → Type 0
IsJudgedClaim p n q part result = AreJudged p (part_claims n q part) (open_in_part part) result

-- what is answered of both sides of the query of this number
abbrev pub AreJudgedSides : Parts → ℕ → Query → SideAnswer → SideAnswer → Result Accepted CheckError → Type 0
AreJudgedSides p n q lower upper result = IsJudgedClaim p n q (claimed.Interval (side_of lower) (side_of upper)) result

-- what is answered of the answer to the query of this number
abbrev pub IsJudgedPart : Parts → ℕ → Query → QueryAnswer → Result Accepted CheckError → Type 0
IsJudgedPart p n q answer result = IsJudgedClaim p n q (part_of answer) result

-- what is answered of the parts of these queries, which are numbered from 1
abbrev pub AreJudgedParts : Parts → List Query → List QueryPart → Result Accepted CheckError → Type 0
AreJudgedParts p queries parts result = AreJudged p (claims_from 1 queries (parts_of parts))
    (sum (map open_in_part (parts_of parts))) result
