-- Laws of refusals and of limits.
use Rattle.std.specs.Prelude.{◌≡◌, ◌<◌, ℕ, List, length}
use Rattle.std.specs.List.{AllByRecursion}
use Rattle.ps_answer.specs.declared.answer.Answer as found
use Rattle.ps_io.specs.declared.limits.TheConstants.{LONGEST_LINE}
use Rattle.ps_answer.specs.Items.{IsProper, IsWithin, item_line}
use Rattle.ps_answer.specs.Answers.{answer_items}
use Rattle.ps_answer.specs.Faults.{IsReport}
use Rattle.ps_valid.specs.Limits.{IsSmallAnswer}
use Rattle.ps_problem.specs.Problems.{Parts}
use Rattle.ps_claims.specs.Answers.{Answer}
use Rattle.ps_claims.specs.Duals.{Dual}
use Rattle.ps_claims.specs.declared.claim.Claim.{Claim}
use Rattle.ps_claims.specs.declared.reason.Reason.{Reason}
use Rattle.ps_claims.specs.Claims.{IsRefused}

-- an answer is refused for one reason, against one claim
abbrev pub RefusalsAreSingle : Type 0
RefusalsAreSingle = (p : Parts) (a : Answer Dual) (claim other : Claim) (r s : Reason) → IsRefused p a claim r
    → IsRefused p a other s → (claim ≡ other) × (r ≡ s)

-- where each line of an answer is within the limits and has the signs that it asks, the answer is within those of a check
abbrev pub AnswersWithinAreSmall : Type 0
AnswersWithinAreSmall = (a : found.Answer) → AllByRecursion (λ i. IsProper i × IsWithin i) (answer_items a) → IsSmallAnswer a

-- so is each answer of a report
abbrev pub ReportsAreSmall : Type 0
ReportsAreSmall = (bytes : List ℕ) (a : found.Answer) → IsReport bytes a → IsSmallAnswer a

-- where each line of an answer is within the limits, each is short enough to be written
abbrev pub LinesWithinAreShort : Type 0
LinesWithinAreShort = (a : found.Answer) → AllByRecursion IsWithin (answer_items a)
    → AllByRecursion (λ i. length (item_line i) < LONGEST_LINE) (answer_items a)
