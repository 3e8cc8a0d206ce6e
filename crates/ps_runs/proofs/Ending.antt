-- A phase that ends where it has come to is lawful.
use Rattle.std.proofs.Common.{◌≡◌, ℕ, ◌+◌, List, [], sym, subst}
use Rattle.ps_meaning.specs.Formula.{World}
use Rattle.ps_table.specs.declared.event.Event.{Event}
use Rattle.ps_table.specs.Tableau.{Tableau}
use Rattle.ps_answer.specs.declared.answer.SideAnswer.{SideAnswer}
use Rattle.ps_answer.specs.declared.answer.Verdict.{Verdict}
use Rattle.ps_runs.specs.declared.limits.Limits.{Limits}
use Rattle.ps_runs.specs.Programs.{Program}
use Rattle.ps_runs.specs.Runs.{Stage, IsStart, LeadsTo, pivots_in}
use Rattle.ps_runs.specs.Verdicts.{IsVerdictAt, IsLawfulPhaseOne, IsSideAt, IsLawfulSide}
use Rattle.ps_runs.specs.Tables.{stage_at, IsUnderWay, standing}

module _ (p : Program) (limits : Limits) (from : Stage) (pool : List World) (t : Tableau) (trace : List Event) (left : ℕ)
    (starts : IsStart p.frame from) (way : IsUnderWay p limits.conflicts from limits.pivots [] (standing pool t trace left)) where
  pub ended : (answer : Verdict) → IsVerdictAt p limits (stage_at pool t) left answer → IsLawfulPhaseOne p limits answer trace
  ended answer answered = record {
    start = from;
    starts = starts;
    end = stage_at pool t;
    left = left;
    leads = subst (λ es. LeadsTo p limits.conflicts from es (stage_at pool t)) (sym way.appended) way.leads;
    counted = subst (λ es. left + pivots_in es ≡ limits.pivots) (sym way.appended) way.counted;
    answered = answered;
  }

module _ (p : Program) (limits : Limits) (from : Stage) (had : ℕ) (pool : List World) (t : Tableau) (trace : List Event) (left : ℕ)
    (way : IsUnderWay p limits.conflicts from had [] (standing pool t trace left)) where
  pub side_ended : (answer : SideAnswer) → IsSideAt p limits (stage_at pool t) left answer → IsLawfulSide p limits (from, had) (stage_at pool t, left) (answer, trace)
  side_ended answer answered = record {
    leads = subst (λ es. LeadsTo p limits.conflicts from es (stage_at pool t)) (sym way.appended) way.leads;
    counted = subst (λ es. left + pivots_in es ≡ had) (sym way.appended) way.counted;
    answered = answered;
  }
