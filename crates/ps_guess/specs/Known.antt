-- What is known of a query, where time may be over before it is answered.
use Rattle.std.specs.Prelude.{ℕ, ◌+◌, ◌⊎◌, Bool, true, List, Option, Some, None, IfSome, IsSome, ◌≡◌, ◌≢◌}
use Rattle.ps_problem.specs.declared.query.Query.{Query}
use Rattle.ps_problem.specs.Problems.{Parts}
use Rattle.ps_table.specs.declared.event.Event.{Event}
use Rattle.ps_answer.specs.declared.answer.Cause.{Cause}
use Rattle.ps_answer.specs.declared.answer.Verdict.{Verdict}
use Rattle.ps_answer.specs.declared.answer.Verdict.TheVariants.{Open}
use Rattle.ps_answer.specs.declared.answer.SideAnswer.{SideAnswer}
use Rattle.ps_answer.specs.declared.answer.QueryAnswer.{QueryAnswer}
use Rattle.ps_answer.specs.declared.answer.QueryAnswer.TheVariants as query
use Rattle.ps_answer.specs.declared.answer.QueryPart.{QueryPart}
use Rattle.ps_claims.specs.declared.claim_kind.ClaimKind.{ClaimKind}
use Rattle.ps_claims.specs.declared.claim_kind.ClaimKind.TheVariants.{Lower, Upper}
use Rattle.ps_valid.specs.Answers.{side_of}
use Rattle.ps_claims.specs.Validity.{IsValidSide}
use Rattle.ps_claims.specs.Printed.{IsPrintedSide}
use Rattle.ps_runs.specs.declared.limits.Limits.{Limits}
use Rattle.ps_guess.specs.Trials.{IsFoundSide}
use Rattle.ps_guess.specs.Turns.{limits_in}
use Rattle.ps_guess.specs.declared.turns.TheConstants.{MOST_TURNS}
use Rattle.ps_query.specs.Parts.{IsPartOf, IsVerdictOf}
use Rattle.ps_query.specs.Settled.{IsClosed}
use Rattle.ps_guess.specs.Solutions.{IsAnsweredPart}
use Rattle.ps_guess.specs.declared.known.Known.{Known}
use Rattle.ps_guess.specs.declared.known.Known.TheVariants.{Answered, Sides}

-- sides of a query that were found, each with its certificates
abbrev pub AreFound : Parts → Query → Option SideAnswer → Option SideAnswer → Type 0
AreFound p q lower upper = IfSome lower (IsFoundSide p Lower q) × IfSome upper (IsFoundSide p Upper q)

-- what is known of a query: its answer within the limits, or sides that were found
abbrev pub IsKnown : Limits → Parts → Query → Known → Type 0
IsKnown limits p q (Answered part) = IsAnsweredPart limits p q part
IsKnown limits p q (Sides lower upper) = AreFound p q lower upper

-- what was found of a query: it is known within all limits
abbrev pub IsFoundKnown : Parts → Query → Known → Type 0
IsFoundKnown p q known = (limits : Limits) → IsKnown limits p q known

-- of every problem and query, of whose sides these were found: that is known within all limits
abbrev pub IsKnownBySides : Option SideAnswer → Option SideAnswer → Known → Type 0
IsKnownBySides lower upper known = (limits : Limits) (p : Parts) (q : Query) → IfSome lower (IsFoundSide p Lower q)
    → IfSome upper (IsFoundSide p Upper q) → IsKnown limits p q known

-- a side that a run left: valid, and such as can be printed
abbrev pub IsLeftSide : Parts → ClaimKind → Query → SideAnswer → Type 0
IsLeftSide p kind q a = IsValidSide p kind q (side_of a) × IsPrintedSide a

-- of every problem, query and side: beside a run that left this one, the other was found, where it is there
abbrev pub IsClosedOrFound : Option SideAnswer → SideAnswer → Option SideAnswer → Type 0
IsClosedOrFound found left known = (p : Parts) (q : Query) (kind : ClaimKind) → IfSome found (IsFoundSide p kind q)
    → IsLeftSide p kind q left → IfSome known (IsFoundSide p kind q)

-- of every problem and query, to which a run within some limits led to this part, and of whose sides these were found:
-- that is known within all limits
abbrev pub IsKnownBeside : QueryPart → Option SideAnswer → Option SideAnswer → Known → Type 0
IsKnownBeside run lower upper known = (limits own : Limits) (p : Parts) (q : Query) → IsPartOf own p q run
    → IfSome lower (IsFoundSide p Lower q) → IfSome upper (IsFoundSide p Upper q) → IsKnown limits p q known

-- the answer to a query is known
abbrev pub HasAnswer : Known → Type 0
HasAnswer (Answered part) = Unit {0}
HasAnswer (Sides lower upper) = ⊥

-- a side that was found before is not lost
abbrev pub KeepsSide : Option SideAnswer → Option SideAnswer → Type 0
KeepsSide found side = IfSome found (λ a. side ≡ Some a)

-- a side that was found is the one that is answered
abbrev pub ShowsSide : Option SideAnswer → SideAnswer → Type 0
ShowsSide found side = IfSome found (λ a. side ≡ a)

-- each side that was found is the answer's: an open answer has none, and one by which the evidence is impossible needs none
abbrev pub ShowsSides : Option SideAnswer → Option SideAnswer → QueryAnswer → Type 0
ShowsSides lower upper (query.Bounds l les u ues) = ShowsSide lower l × ShowsSide upper u
ShowsSides lower upper (query.Impossible d) = Unit {0}
ShowsSides lower upper (query.Open cause) = IfSome lower (λ a. ⊥) × IfSome upper (λ a. ⊥)

-- no side that was found before is lost: the answer shows each of these sides, or it is still known
abbrev pub KeepsSides : Option SideAnswer → Option SideAnswer → Known → Type 0
KeepsSides lower upper (Answered part) = ShowsSides lower upper part.answer
KeepsSides lower upper (Sides l u) = KeepsSide lower l × KeepsSide upper u

-- of an answer to a query of which this was known before: it is the answer that was known, or shows each side that was found
abbrev pub ShowsKnown : Known → QueryPart → Type 0
ShowsKnown (Answered known) part = part ≡ known
ShowsKnown (Sides lower upper) part = ShowsSides lower upper part.answer

-- nothing that was known before is lost: an answer stays one, and of sides none is lost
abbrev pub KeepsKnown : Known → Known → Type 0
KeepsKnown (Answered part) known = HasAnswer known
KeepsKnown (Sides lower upper) known = KeepsSides lower upper known

-- no bound that a run left is lost: the answer is known, or a side is for each bound of the run; where the run excludes the
-- evidence, the answer is known
abbrev pub TakesBounds : QueryAnswer → Known → Type 0
TakesBounds run (Answered part) = Unit {0}
TakesBounds (query.Bounds lower les upper ues) (Sides l u) = (IsClosed lower → IsSome l) × (IsClosed upper → IsSome u)
TakesBounds (query.Impossible d) (Sides l u) = ⊥
TakesBounds (query.Open cause) (Sides l u) = Unit {0}

-- a run within some limits led to a part of the query of which no bound is lost
pub record TakesRun (own : Limits) (p : Parts) (q : Query) (known : Known) : Type 0 where
  pub run : QueryPart
  pub led : IsPartOf own p q run
  pub taken : TakesBounds run.answer known

-- no run was needed, since the answer is known, or one within the limits of a turn led to a part of which no bound is lost
abbrev pub TakesTurn : Limits → ℕ → Parts → Query → Known → Type 0
TakesTurn limits turn p q known = HasAnswer known ⊎ TakesRun (limits_in limits turn) p q known

-- a run within some limits left the verdict open
pub record LeavesOpen (own : Limits) (p : Parts) : Type 0 where
  pub cause : Cause
  pub events : List Event
  pub led : IsVerdictOf own p (Open cause) events

-- there is a verdict, or a run within the limits of a turn left it open
abbrev pub TakesVerdict : Limits → ℕ → Parts → Option (Verdict × List Event) → Type 0
TakesVerdict limits turn p (Some found) = Unit {0}
TakesVerdict limits turn p None = LeavesOpen (limits_in limits turn) p

-- there is a verdict, or this is so
abbrev pub IsFoundOr : {V : Type 0} → Bool → Option V → Type 0
IsFoundOr so (Some found) = Unit {0}
IsFoundOr so None = so ≡ true

-- there is a verdict, or this is so, or a run within the limits of a turn left it open, which isn't the last turn
abbrev pub IsRunOr : Bool → Limits → ℕ → Parts → Option (Verdict × List Event) → Type 0
IsRunOr so limits turn p (Some found) = Unit {0}
IsRunOr so limits turn p None = (so ≡ true) ⊎ ((turn + 1 ≢ MOST_TURNS) × LeavesOpen (limits_in limits turn) p)
