-- What wasn't finished within a limit of time.
use Rattle.std.specs.Prelude.{◌≡◌, ◌==◌, ◌||◌, ◌&&◌, Bool, true, false, List, [], ◌∷◌}
use Rattle.ps_answer.specs.declared.answer.Cause.{Cause}
use Rattle.ps_answer.specs.declared.answer.Cause.TheVariants.{Pivots, Conflicts, Wide}
use Rattle.ps_answer.specs.declared.answer.SideAnswer.{SideAnswer}
use Rattle.ps_answer.specs.declared.answer.SideAnswer.TheVariants as side
use Rattle.ps_answer.specs.declared.answer.QueryAnswer.{QueryAnswer}
use Rattle.ps_answer.specs.declared.answer.QueryAnswer.TheVariants as query
use Rattle.ps_answer.specs.declared.answer.QueryPart.{QueryPart}
use Rattle.ps_answer.specs.declared.answer.Verdict.{Verdict}
use Rattle.ps_answer.specs.declared.answer.Verdict.TheVariants as verdict
use Rattle.ps_answer.specs.declared.answer.Answer.{Answer}
use Rattle.ps_spoken.specs.declared.cause.TheConstants.{OUT_OF_TIME}

-- the cause is that time was over
abbrev pub is_late_cause : Cause → Bool
is_late_cause (Pivots limit) = limit == OUT_OF_TIME
is_late_cause (Conflicts limit goal steps) = false
is_late_cause (Wide at) = false

-- the side is open since time was over
abbrev pub is_late_side : SideAnswer → Bool
is_late_side (side.Bound value m d) = false
is_late_side (side.Open c) = is_late_cause c

-- the query, or a side of it, is open since time was over
abbrev pub is_late_answer : QueryAnswer → Bool
is_late_answer (query.Bounds lower lower_trace upper upper_trace) = is_late_side lower || is_late_side upper
is_late_answer (query.Impossible d) = false
is_late_answer (query.Open c) = is_late_cause c

-- the side is a bound, or it is open since time was over
abbrev pub IsClosedOrLate : SideAnswer → Type 0
IsClosedOrLate (side.Bound value m d) = Unit {0}
IsClosedOrLate (side.Open c) = is_late_cause c ≡ true

-- whatever is open in the answer is open since time was over
abbrev pub IsOpenByTime : QueryAnswer → Type 0
IsOpenByTime (query.Bounds lower lower_trace upper upper_trace) = IsClosedOrLate lower × IsClosedOrLate upper
IsOpenByTime (query.Impossible d) = Unit {0}
IsOpenByTime (query.Open c) = is_late_cause c ≡ true

-- so is some query of these
abbrev pub is_late_in : List QueryPart → Bool
is_late_in [] = false
is_late_in (part ∷ parts) = is_late_answer part.answer || is_late_in parts

-- the verdict is open since time was over
abbrev pub is_late_verdict : Verdict → Bool
is_late_verdict (verdict.Consistent m) = false
is_late_verdict (verdict.Inconsistent d) = false
is_late_verdict (verdict.Open c) = is_late_cause c

-- time is limited, and the verdict or some part of the answer wasn't finished in time
abbrev pub is_late : Bool → Answer → Bool
is_late timed a = timed && (is_late_verdict a.verdict || is_late_in a.parts)
