-- What an answer to a problem is to be where its parts may be guessed.
use Rattle.std.specs.Prelude.{List, Option, Some, IfSome}
use Rattle.std.specs.List.{AllZip}
use Rattle.ps_problem.specs.declared.query.Query.{Query}
use Rattle.ps_problem.specs.Problems.{Parts}
use Rattle.ps_table.specs.declared.event.Event.{Event}
use Rattle.ps_answer.specs.declared.answer.Answer.{Answer}
use Rattle.ps_answer.specs.declared.answer.Verdict.{Verdict}
use Rattle.ps_answer.specs.declared.answer.SideAnswer.{SideAnswer}
use Rattle.ps_answer.specs.declared.answer.Cause.{Cause}
use Rattle.ps_answer.specs.declared.answer.Dual.{Dual}
use Rattle.ps_answer.specs.declared.answer.QueryAnswer.{QueryAnswer}
use Rattle.ps_answer.specs.declared.answer.QueryAnswer.TheVariants as query
use Rattle.ps_answer.specs.declared.answer.QueryPart.{QueryPart}
use Rattle.ps_claims.specs.declared.claim_kind.ClaimKind.{ClaimKind}
use Rattle.ps_claims.specs.declared.claim_kind.ClaimKind.TheVariants.{Lower, Upper}
use Rattle.ps_claims.specs.Validity.{IsValid, IsValidPart, IsValidSide, IsValidVerdict}
use Rattle.ps_valid.specs.Answers.{answer_of, part_of, side_of, verdict_of as claimed_verdict, IsRightOf}
use Rattle.ps_runs.specs.Verdicts.{asked_after}
use Rattle.ps_claims.specs.Printed.{IsPrintedAnswer, IsPrintedPart, IsPrintedSide, IsPrintedVerdict}
use Rattle.ps_runs.specs.declared.limits.Limits.{Limits}
use Rattle.ps_guess.specs.Trials.{IsFoundDual, IsFoundSide}
use Rattle.ps_query.specs.Parts.{IsPartOf}
use Rattle.ps_query.specs.Settled.{IsBesideRun, IsSettledVerdict, IsSettledPart, IsSettledAnswer}

-- a verdict that is answered, with its events
pub record IsAnsweredVerdict (limits : Limits) (p : Parts) (v : Verdict) (events : List Event) : Type 0 where
  pub settled : IsSettledVerdict p limits v events
  pub valid : IsValidVerdict p (claimed_verdict v)
  pub printed : IsPrintedVerdict v

-- a verdict that was found, with its events: it is answered within all limits
abbrev pub IsFoundVerdict : Parts → Verdict → List Event → Type 0
IsFoundVerdict p v events = (limits : Limits) → IsAnsweredVerdict limits p v events

-- a part that is answered
pub record IsAnsweredPart (limits : Limits) (p : Parts) (q : Query) (part : QueryPart) : Type 0 where
  pub settled : IsSettledPart p limits q part
  pub valid : IsValidPart p q (part_of part.answer)
  pub printed : IsPrintedPart part.answer

-- a side that is answered beside a run that ends so
pub record IsAnsweredSide (p : Parts) (q : Query) (run : QueryAnswer) (kind : ClaimKind) (a : SideAnswer)
    (events : List Event) : Type 0 where
  pub beside : IsBesideRun run kind a events
  pub valid : IsValidSide p kind q (side_of a)
  pub printed : IsPrintedSide a

-- of every problem and query: beside a run that left this side, the answered side is the found one, where one was found
abbrev pub IsFoundOrLeft : Option SideAnswer → SideAnswer → List Event → SideAnswer → List Event → Type 0
IsFoundOrLeft found left events a others = (p : Parts) (q : Query) (run : QueryAnswer) (kind : ClaimKind)
    → IfSome found (IsFoundSide p kind q) → IsAnsweredSide p q run kind left events → IsAnsweredSide p q run kind a others

-- of every problem and query, whose evidence this dual was found to exclude: the part is answered
abbrev pub IsAnsweredByDual : Dual → QueryPart → Type 0
IsAnsweredByDual d part = (limits : Limits) (p : Parts) (q : Query) → IsFoundDual p (Some q) d → IsAnsweredPart limits p q part

-- of every problem and query, of whose sides these were found: the part is answered
abbrev pub IsAnsweredByBoth : SideAnswer → SideAnswer → QueryPart → Type 0
IsAnsweredByBoth lower upper part = (limits : Limits) (p : Parts) (q : Query)
    → IsFoundSide p Lower q lower → IsFoundSide p Upper q upper → IsAnsweredPart limits p q part

-- a part that is open for a cause, with the events before it
abbrev pub open_part : Cause → List Event → QueryPart
open_part cause first = record { answer = query.Open cause; first = first }

-- of every problem and query, to which a run led to this part, and of whose sides these were found: the other part is answered
abbrev pub IsAnsweredBeside : QueryPart → Option SideAnswer → Option SideAnswer → QueryPart → Type 0
IsAnsweredBeside run lower upper part = (limits : Limits) (p : Parts) (q : Query) → IsPartOf limits p q run
    → IfSome lower (IsFoundSide p Lower q) → IfSome upper (IsFoundSide p Upper q) → IsAnsweredPart limits p q part

-- a part for each query of a problem that is asked behind this verdict
abbrev pub AreAnsweredParts : Limits → Parts → Verdict → List QueryPart → Type 0
AreAnsweredParts limits p v parts = AllZip (IsAnsweredPart limits p) (asked_after v p.queries) parts

-- an answer to a problem within limits: each claim is valid and right, each part has its certificates alone or comes
-- of a lawful run, which licenses what is open, and all of it can be printed
pub record IsSettledSolution (limits : Limits) (p : Parts) (a : Answer) : Type 0 where
  pub valid : IsValid p (answer_of a)
  pub right : IsRightOf p a
  pub settled : IsSettledAnswer p limits a
  pub printed : IsPrintedAnswer a
