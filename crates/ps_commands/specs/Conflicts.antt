-- When a limit of conflicts leaves no part open for conflicts.
use Rattle.std.specs.Prelude.{ℕ, ◌^◌, ◌≤◌, List, All, length}
use Rattle.ps_problem.specs.Problems.{Parts}
use Rattle.ps_answer.specs.declared.answer.Cause.{Cause}
use Rattle.ps_answer.specs.declared.answer.Cause.TheVariants.{Pivots, Conflicts, Wide}
use Rattle.ps_answer.specs.declared.answer.Verdict.{Verdict}
use Rattle.ps_answer.specs.declared.answer.Verdict.TheVariants.{Consistent, Inconsistent, Open}
use Rattle.ps_answer.specs.declared.answer.SideAnswer.{SideAnswer}
use Rattle.ps_answer.specs.declared.answer.SideAnswer.TheVariants as side
use Rattle.ps_answer.specs.declared.answer.QueryAnswer.{QueryAnswer}
use Rattle.ps_answer.specs.declared.answer.QueryAnswer.TheVariants as query
use Rattle.ps_answer.specs.declared.answer.Answer.{Answer}
use Rattle.ps_explain.specs.declared.explained.Explained.{Explained}
use Rattle.ps_explain.specs.declared.explained.Explained.TheVariants as explained
use Rattle.ps_make.specs.Chain.{made_problem}
use Rattle.ps_runs.specs.declared.limits.Limits.{Limits}
use Rattle.ps_commands.specs.Due.{IsExplainedBy, IsMadeBy, IsSolvedBy}
use Rattle.ps_messages.specs.Lines.{Output}

-- a search may learn as many clauses as there are ways to set the nodes of a problem: 2 to their number
abbrev pub IsEnoughFor : Parts → ℕ → Type 0
IsEnoughFor p conflicts = 2 ^ length p.nodes ≤ conflicts

-- ---- causes other than the limit of conflicts
-- the cause is another than the limit of conflicts
abbrev pub IsOtherThanConflicts : Cause → Type 0
IsOtherThanConflicts (Pivots limit) = Unit {0}
IsOtherThanConflicts (Conflicts limit goal steps) = ⊥
IsOtherThanConflicts (Wide at) = Unit {0}

-- a verdict is none that is open for conflicts
abbrev pub IsVerdictNotForConflicts : Verdict → Type 0
IsVerdictNotForConflicts (Consistent m) = Unit {0}
IsVerdictNotForConflicts (Inconsistent d) = Unit {0}
IsVerdictNotForConflicts (Open cause) = IsOtherThanConflicts cause

-- a side of a query is none that is open for conflicts
abbrev pub IsSideNotForConflicts : SideAnswer → Type 0
IsSideNotForConflicts (side.Bound value m d) = Unit {0}
IsSideNotForConflicts (side.Open cause) = IsOtherThanConflicts cause

-- neither the answer to a query nor a side of it is open for conflicts
abbrev pub IsQueryNotForConflicts : QueryAnswer → Type 0
IsQueryNotForConflicts (query.Bounds lower lower_trace upper upper_trace) =
    IsSideNotForConflicts lower × IsSideNotForConflicts upper
IsQueryNotForConflicts (query.Impossible d) = Unit {0}
IsQueryNotForConflicts (query.Open cause) = IsOtherThanConflicts cause

-- no part of an answer is open for conflicts
pub record HasNoConflictsCause (a : Answer) : Type 0 where
  pub verdict : IsVerdictNotForConflicts a.verdict
  pub parts : All (λ part. IsQueryNotForConflicts part.answer) a.parts

-- an explanation is none that is open for conflicts
abbrev pub IsExplanationNotForConflicts : Explained → Type 0
IsExplanationNotForConflicts (explained.Consistent m) = Unit {0}
IsExplanationNotForConflicts (explained.Core sentences d models) = Unit {0}
IsExplanationNotForConflicts (explained.Open sentences cause first) = IsOtherThanConflicts cause

-- ---- the laws
-- with such a limit no part of an answer that is due for `solve` is open for conflicts
abbrev pub ManyConflictsLeaveNoneOpen : Type 0
ManyConflictsLeaveNoneOpen = (limits : Limits) (bytes : List ℕ) (o : Output) (p : Parts) (a : Answer)
    → IsEnoughFor p limits.conflicts → IsSolvedBy limits bytes o p a → HasNoConflictsCause a

-- nor is an explanation that is due for `explain`
abbrev pub ManyConflictsLeaveNoExplanationOpen : Type 0
ManyConflictsLeaveNoExplanationOpen = (limits : Limits) (bytes : List ℕ) (o : Output) (p : Parts) (e : Explained)
    → IsEnoughFor p limits.conflicts → IsExplainedBy limits bytes o p e → IsExplanationNotForConflicts e

-- nor is a part of the answer whose summary is due for `make`
abbrev pub ManyConflictsLeaveNoneOpenOfMade : Type 0
ManyConflictsLeaveNoneOpenOfMade = (n : ℕ) (limits : Limits) (o : Output) (a : Answer)
    → IsEnoughFor (made_problem n) limits.conflicts → IsMadeBy n limits o a → HasNoConflictsCause a
