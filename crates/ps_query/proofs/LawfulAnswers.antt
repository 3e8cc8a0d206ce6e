-- A lawful answer is settled.
use Rattle.std.proofs.Common.{List, [], ◌∷◌, inr, refl}
use Rattle.std.specs.List.{AllZip}
use Rattle.ps_problem.specs.declared.query.Query.{Query}
use Rattle.ps_problem.specs.Problems.{Parts}
use Rattle.ps_table.specs.declared.event.Event.{Event}
use Rattle.ps_answer.specs.declared.answer.QueryAnswer.{QueryAnswer}
use Rattle.ps_answer.specs.declared.answer.QueryAnswer.TheVariants as query
use Rattle.ps_answer.specs.declared.answer.QueryPart.{QueryPart}
use Rattle.ps_answer.specs.declared.answer.Answer.{Answer}
use Rattle.ps_runs.specs.declared.limits.Limits.{Limits}
use Rattle.ps_runs.specs.Subjects.{Subject, subject_of}
use Rattle.ps_runs.specs.Verdicts.{IsLawfulAnswerTo, IsLawfulPart, IsLawfulAnswer, asked_after}
use Rattle.ps_query.specs.Settled.{IsOfRun, IsSettledPart, IsSettledAnswer}

pub run_itself : (s : Subject) (limits : Limits) (first : List Event) (a : QueryAnswer) → IsLawfulAnswerTo s limits first a → IsOfRun s limits first a
run_itself s limits first (query.Bounds lower lower_trace upper upper_trace) h = record {
  run = query.Bounds lower lower_trace upper upper_trace;
  lawful = h;
  below = inr (refl, refl);
  above = inr (refl, refl);
}
run_itself s limits first (query.Impossible d) h = h
run_itself s limits first (query.Open cause) h = h

pub lawful_settled : (p : Parts) (limits : Limits) (q : Query) (part : QueryPart) → IsLawfulPart p limits q part → IsSettledPart p limits q part
lawful_settled p limits q part h = inr (run_itself (subject_of p q) limits part.first part.answer h)

parts_settled : (p : Parts) (limits : Limits) (qs : List Query) (parts : List QueryPart) → AllZip (IsLawfulPart p limits) qs parts
    → AllZip (IsSettledPart p limits) qs parts
parts_settled p limits [] [] h = tt
parts_settled p limits [] (x ∷ xs) h = h
parts_settled p limits (q ∷ qs) [] h = h
parts_settled p limits (q ∷ qs) (x ∷ xs) h = (lawful_settled p limits q x h.0, parts_settled p limits qs xs h.1)

pub answer_settled : (p : Parts) (limits : Limits) (a : Answer) → IsLawfulAnswer p limits a → IsSettledAnswer p limits a
answer_settled p limits a h = record { verdict = inr h.verdict; parts = parts_settled p limits (asked_after a.verdict p.queries) a.parts h.parts }
