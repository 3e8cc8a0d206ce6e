-- What an answer claims: its models, its duals, and its parts without their causes and traces.
use Rattle.std.specs.Prelude.{List, map}
use Rattle.ps_problem.specs.Problems.{Parts}
use Rattle.ps_answer.specs.declared.answer.Verdict.{Verdict}
use Rattle.ps_answer.specs.declared.answer.Verdict.TheVariants.{Consistent, Inconsistent, Open}
use Rattle.ps_answer.specs.declared.answer.SideAnswer.{SideAnswer}
use Rattle.ps_answer.specs.declared.answer.SideAnswer.TheVariants as side
use Rattle.ps_answer.specs.declared.answer.QueryAnswer.{QueryAnswer}
use Rattle.ps_answer.specs.declared.answer.QueryAnswer.TheVariants as query
use Rattle.ps_answer.specs.declared.answer.QueryPart.{QueryPart}
use Rattle.ps_answer.specs.declared.answer.Answer.{Answer}
use Rattle.ps_claims.specs.Certificates.{model_of, dual_of}
use Rattle.ps_claims.specs.Answers as claimed
use Rattle.ps_claims.specs.Duals.{Dual}
use Rattle.ps_claims.specs.Validity.{IsRightFor}

-- what a verdict claims: its model or its dual; an open one claims nothing, whatever its cause
abbrev pub verdict_of : Verdict → claimed.Verdict Dual
verdict_of (Consistent m) = claimed.Consistent (model_of m)
verdict_of (Inconsistent d) = claimed.Inconsistent (dual_of d)
verdict_of (Open cause) = claimed.OpenVerdict

-- what a side of a query claims: its value, with model and dual; an open one claims nothing, whatever its cause
abbrev pub side_of : SideAnswer → claimed.SideAnswer Dual
side_of (side.Bound value m d) = claimed.Value value (model_of m) (dual_of d)
side_of (side.Open cause) = claimed.OpenSide

-- what the answer to a query claims: its sides without their traces, or its dual; an open one claims nothing, whatever its cause
abbrev pub part_of : QueryAnswer → claimed.QueryAnswer Dual
part_of (query.Bounds lower lower_trace upper upper_trace) = claimed.Interval (side_of lower) (side_of upper)
part_of (query.Impossible d) = claimed.Impossible (dual_of d)
part_of (query.Open cause) = claimed.OpenQuery

-- what each part claims, in their order and without their traces
abbrev pub parts_of : List QueryPart → List (claimed.QueryAnswer Dual)
parts_of parts = map (λ part. part_of part.answer) parts

-- the answer of which claims speak
abbrev pub answer_of : Answer → claimed.Answer Dual
answer_of a = record { verdict = verdict_of a.verdict; parts = parts_of a.parts }

-- what the answer claims is right for the problem's bounds and queries; its causes and traces claim nothing
abbrev pub IsRightOf : Parts → Answer → Type 0
IsRightOf p a = IsRightFor p (answer_of a)
