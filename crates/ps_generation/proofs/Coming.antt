-- What a phase does after what it did before.
use Rattle.std.proofs.Common.{◌≡◌, ℕ, ◌+◌, ◌≤◌, List, ◌++◌, length, Option, Some, None, refl, ap, ◌∙◌, arith}
use Rattle.std.proofs.lemmas.List.{append_assoc}
use Rattle.ps_meaning.specs.Formula.{World}
use Rattle.ps_table.specs.declared.event.Event.{Event}
use Rattle.ps_table.specs.declared.costs.Costs.{Costs}
use Rattle.ps_table.specs.Tableau.{Tableau}
use Rattle.ps_bland.specs.Rules.{simplex_of}
use Rattle.ps_answer.specs.declared.answer.Cause.{Cause}
use Rattle.ps_claims.specs.declared.claim_kind.ClaimKind.{ClaimKind}
use Rattle.ps_claims.specs.declared.claim_kind.ClaimKind.TheVariants.{Nothing, Lower, Upper}
use Rattle.ps_simplex.specs.Rule.{IsFeasible}
use Rattle.ps_runs.specs.Subjects.{Subject, program_of}
use Rattle.ps_runs.specs.Runs.{Stage}
use Rattle.ps_runs.proofs.Composed.{pivots_in-append, leads_on}
use Rattle.ps_runs.specs.Tables.{stage_at, IsUnderWay, standing}
use Rattle.ps_runs.proofs.GoingOn.{begun}
use Rattle.ps_runs.specs.declared.state.State.{State}
use Rattle.ps_generation.specs.declared.end.End.{End}
use Rattle.ps_generation.specs.declared.end.End.TheVariants.{Feasible, NoneAbove, Open}
use Rattle.ps_generation.specs.Phases.{LimitedSubject, IsInPhase, HasCome, IsOpenEnd, IsEnd, IsLeft}
use Rattle.ps_generation.specs.Rounds.{HasEntered, IsPhaseSettled, IsRound}

pub way_on : (kind : ClaimKind) (s : Subject) (conflicts : ℕ) (from : Stage) (had : ℕ) (before : List Event) (pool : List World) (t : Tableau) (trace : List Event) (left : ℕ)
    (more : List World) (u : Tableau) (longer : List Event) (now : ℕ) → IsUnderWay (program_of kind s) conflicts from had before (standing pool t trace left)
    → IsUnderWay (program_of kind s) conflicts (stage_at pool t) left trace (standing more u longer now) → IsUnderWay (program_of kind s) conflicts from had before (standing more u longer now)
way_on kind s conflicts from had before pool t trace left more u longer now a b = record {
  table = b.table;
  pool_kept = b.pool_kept;
  events = a.events ++ b.events;
  appended = b.appended ∙ ap (λ es. es ++ b.events) a.appended ∙ append_assoc before a.events b.events;
  leads = leads_on (program_of kind s) conflicts from (stage_at pool t) (stage_at more u) a.events b.events a.leads b.leads;
  counted =
      let x = a.counted in
      let y = b.counted in
      let p = pivots_in-append a.events b.events in
      omega (arith, x, y, p);
}

module _ (kind : ClaimKind) (r : LimitedSubject) where
  -- a phase begins where it is
  pub come_none : (costs : Costs) (old : State) → IsInPhase kind r.subject costs old → HasCome kind r old old
  come_none costs old phase = record { way = begun (program_of kind r.subject) r.limits.conflicts old.pool old.table old.trace old.left phase.table phase.pool_kept }

  module _ (a b c : State) (come : HasCome kind r a b) where
    pub come_on : HasCome kind r b c → HasCome kind r a c
    come_on next = record {
      way = way_on kind r.subject r.limits.conflicts (stage_at a.pool a.table) a.left a.trace b.pool b.table b.trace b.left c.pool c.table c.trace c.left come.way next.way;
    }

    open_on : (cause : Cause) → IsOpenEnd kind r b c cause → IsOpenEnd kind r a c cause
    open_on cause end = record { come = come_on end.come; licensed = end.licensed }

    -- an end that comes later is one of the whole
    pub end_on : (end : End) → IsEnd kind r b c end → IsEnd kind r a c end
    end_on Feasible h = (come_on h.0, h.1)
    end_on (NoneAbove d) h = (come_on h.0, h.1)
    end_on (Open cause) h = open_on cause h

    -- a world has entered, and the pivots behind it are a round's
    pub round_on : HasEntered kind r a b → (end : Option End) → c.pool ≡ b.pool → IsPhaseSettled kind r b c end → IsRound kind r a c end
    round_on entered None same rested =
        let few = rested.fewer entered.moves in
        let e = entered.pool in
        let k = entered.left in
        let l : length c.pool ≡ length b.pool = ap (λ (ws : List World). length ws) same in
        record { come = come_on rested.come; rests = rested.rests; fewer = omega (arith, few, k); room = omega (arith, few, e, k, l) }
    round_on entered (Some end) same h = end_on end h

-- a side's table stays feasible
pub side_feasible : (kind : ClaimKind) (s : Subject) (costs : Costs) (new : State) → IsInPhase kind s costs new → (kind ≡ Nothing → ⊥) → IsFeasible (simplex_of new.table)
side_feasible Nothing s costs new phase side = absurd (side refl)
side_feasible Lower s costs new phase side = phase.ready.fits.0
side_feasible Upper s costs new phase side = phase.ready.fits.0

pub left_so : (kind : ClaimKind) (s : Subject) (costs : Costs) (old new : State) → IsInPhase kind s costs new
    → length new.pool + new.left ≤ length old.pool + old.left + 1 → IsLeft kind s old new
left_so kind s costs old new phase room = record { table = phase.table; pool_kept = phase.pool_kept; feasible = side_feasible kind s costs new phase; room = room }
