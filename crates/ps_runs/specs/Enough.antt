-- When a limit of pivots is enough.
use Rattle.std.specs.Prelude.{ℕ, ◌+◌, ◌*◌, ◌^◌, ◌≤◌, All}
use Rattle.ps_simplex.specs.Count.{choose}
use Rattle.ps_problem.specs.Problems.{Parts}
use Rattle.ps_answer.specs.declared.answer.Cause.{Cause}
use Rattle.ps_answer.specs.declared.answer.Cause.TheVariants.{Pivots, Conflicts, Wide}
use Rattle.ps_answer.specs.declared.answer.Verdict.{Verdict}
use Rattle.ps_answer.specs.declared.answer.Verdict.TheVariants.{Consistent, Inconsistent, Open}
use Rattle.ps_answer.specs.declared.answer.SideAnswer.{SideAnswer}
use Rattle.ps_answer.specs.declared.answer.SideAnswer.TheVariants as side
use Rattle.ps_answer.specs.declared.answer.QueryAnswer.{QueryAnswer}
use Rattle.ps_answer.specs.declared.answer.QueryAnswer.TheVariants as query
use Rattle.ps_answer.specs.declared.answer.Answer.{Answer}
use Rattle.ps_runs.specs.declared.limits.Limits.{Limits}
use Rattle.ps_runs.specs.Rows.{rows_of}
use Rattle.ps_runs.specs.Subjects.{Subject, sentences_of, setting_of, atoms_of}
use Rattle.ps_runs.specs.Verdicts.{IsLawfulAnswer}

-- the ways to choose one thing more than rows, of one thing more than rows and all worlds
abbrev pub ways_in : Subject → ℕ
ways_in s = choose (rows_of (setting_of s) + 2 ^ atoms_of s + 1) (rows_of (setting_of s) + 1)

-- a limit of at least three times these pivots is enough, since phase one and each side make fewer
abbrev pub IsEnough : Subject → ℕ → Type 0
IsEnough s pivots = 3 * ways_in s ≤ pivots

-- ---- causes other than the limit of pivots
-- the cause is another than the limit of pivots
abbrev pub IsOtherThanPivots : Cause → Type 0
IsOtherThanPivots (Pivots limit) = ⊥
IsOtherThanPivots (Conflicts limit goal steps) = Unit {0}
IsOtherThanPivots (Wide at) = Unit {0}

-- a verdict is none that is open for pivots
abbrev pub IsVerdictNotForPivots : Verdict → Type 0
IsVerdictNotForPivots (Consistent m) = Unit {0}
IsVerdictNotForPivots (Inconsistent d) = Unit {0}
IsVerdictNotForPivots (Open cause) = IsOtherThanPivots cause

-- a side of a query is none that is open for pivots
abbrev pub IsSideNotForPivots : SideAnswer → Type 0
IsSideNotForPivots (side.Bound value m d) = Unit {0}
IsSideNotForPivots (side.Open cause) = IsOtherThanPivots cause

-- neither the answer to a query nor a side of it is open for pivots
abbrev pub IsQueryNotForPivots : QueryAnswer → Type 0
IsQueryNotForPivots (query.Bounds lower lower_trace upper upper_trace) = IsSideNotForPivots lower × IsSideNotForPivots upper
IsQueryNotForPivots (query.Impossible d) = Unit {0}
IsQueryNotForPivots (query.Open cause) = IsOtherThanPivots cause

-- no part of an answer is open for pivots
pub record HasNoPivotsCause (a : Answer) : Type 0 where
  pub verdict : IsVerdictNotForPivots a.verdict
  pub parts : All (λ part. IsQueryNotForPivots part.answer) a.parts

-- ---- the law
-- with such a limit no part of a lawful answer is open for pivots
abbrev pub LimitsAreEnough : Type 0
LimitsAreEnough = (p : Parts) (limits : Limits) (a : Answer) → IsEnough (sentences_of p) limits.pivots
    → IsLawfulAnswer p limits a → HasNoPivotsCause a
