-- The report of an answer, behind the problem's text, is accepted by `check`.
use Rattle.std.specs.Prelude.{◌≡◌, ◌≢◌, ◌<◌, ◌≤◌, ◌⊎◌, ℕ, Bool, List, ◌++◌, length, codes}
use Rattle.ps_problem.specs.Problems.{Parts}
use Rattle.ps_answer.specs.declared.answer.Answer.{Answer}
use Rattle.ps_claims.specs.Claims.{claims_of, unfinished_of}
use Rattle.ps_valid.specs.Answers.{answer_of}
use Rattle.ps_runs.specs.declared.limits.Limits.{Limits}
use Rattle.ps_generation.specs.Phases.{AreLimits}
use Rattle.ps_answer.specs.declared.limits.TheConstants.{MOST_PIVOTS}
use Rattle.ps_messages.specs.declared.status.Status.TheVariants.{Unfinished}
use Rattle.ps_commands.specs.declared.command.Command.TheVariants.{Check}
use Rattle.ps_commands.specs.declared.command.TheConstants.{MOST_PROBLEM}
use Rattle.ps_commands.specs.RunLimits.{limits_for}
use Rattle.ps_commands.specs.Due.{DueFor, IsSolvedBy}
use Rattle.ps_messages.specs.Lines.{Output, accepted}

-- the output is read back: nothing is open, or the pivots were fewer than the most
abbrev pub IsReadable : Limits → Output → Type 0
IsReadable limits o = (limits.pivots < MOST_PIVOTS) ⊎ (o.status ≢ Unfinished)

-- a report that is due for `solve` is that of one answer
abbrev pub OneAnswerIsDue : Type 0
OneAnswerIsDue = (limits : Limits) (enough : Bool) (bytes : List ℕ) (o : Output) (p q : Parts) (a b : Answer) → AreLimits limits
    → IsSolvedBy (limits_for limits enough p) bytes o p a → IsSolvedBy (limits_for limits enough q) bytes o q b → a ≡ b

-- the problem, a line feed and a report that is due for `solve` are accepted by `check`, where they are within its
-- limit, with the answer's counts of claims and of what is open
abbrev pub ReportsAreAccepted : Type 0
ReportsAreAccepted = (limits : Limits) (bytes : List ℕ) (o : Output) (p : Parts) (a : Answer) (most : ℕ)
    → IsReadable limits o → IsSolvedBy limits bytes o p a
    → length bytes ≤ MOST_PROBLEM → length (bytes ++ (codes "\n" ++ o.text)) ≤ most
    → DueFor (Check most) (bytes ++ (codes "\n" ++ o.text))
    (accepted (length (claims_of p (answer_of a))) (unfinished_of (answer_of a)))
