-- Laws of duals whose steps come later, and of answers whose lines come one by one.
use Rattle.std.specs.Prelude.{◌≤◌, Result, Ok, Err, length}
use Rattle.ps_problem.specs.declared.limits.TheConstants.{MOST_QUERIES}
use Rattle.ps_problem.specs.Problems.{Parts}
use Rattle.ps_answer.specs.declared.answer.Answer.{Answer}
use Rattle.ps_answer.specs.Answers.{answer_items}
use Rattle.ps_valid.specs.declared.refusal.Accepted.{Accepted}
use Rattle.ps_valid.specs.declared.refusal.Refusal.{Refusal}
use Rattle.ps_valid.specs.declared.refusal.CheckError.{CheckError}
use Rattle.ps_valid.specs.declared.refusal.CheckError.TheVariants.{Refused}
use Rattle.ps_valid.specs.Judged.{IsJudged}
use Rattle.ps_valid.specs.Limits.{IsSmallAnswer}
use Rattle.ps_claims.specs.Claims.{Assertion}
use Rattle.ps_check.specs.LaterSteps.{HasDual, HasWeightsNotBelow0, IsDecidedByLaterSteps}
use Rattle.ps_check.specs.declared.progress.Progress.{Progress}
use Rattle.ps_check.specs.Progress.{at_first, HaveTaken, ending}

-- each claim by a dual is decided by the dual without its steps, and then by the steps taken one after another
abbrev pub ClaimsAreDecidedByLaterSteps : Type 0
ClaimsAreDecidedByLaterSteps = (p : Parts) (c : Assertion) → HasDual c → HasWeightsNotBelow0 c → IsDecidedByLaterSteps p c

-- the same as an answer of the check of a whole answer
abbrev pub of_whole : Result Accepted Refusal → Result Accepted CheckError
of_whole (Ok accepted) = Ok accepted
of_whole (Err r) = Err (Refused r)

-- where the lines of an answer were taken one by one, what is answered behind the last is what is answered of the whole answer
abbrev pub LinesAreJudgedAsAnswers : Type 0
LinesAreJudgedAsAnswers = (p : Parts) (a : Answer) (g : Progress) → length p.queries ≤ MOST_QUERIES → IsSmallAnswer a
    → HaveTaken p (answer_items a) at_first g → IsJudged p a (of_whole (ending g))
