-- What phase one answers is lawful and valid.
use Rattle.std.proofs.Common.{◌≡◌, ◌+◌, ◌≤◌, List, [], length, refl, sym, ap, subst, arith, false}
use Rattle.ps_table.specs.declared.event.Event.{Event}
use Rattle.ps_table.specs.Tableau.{entry_at}
use Rattle.ps_table.specs.declared.place.WideAt.{WideAt}
use Rattle.ps_table.specs.Places.{IsWideAt}
use Rattle.ps_bland.specs.Rules.{IsDueToEndIn}
use Rattle.ps_generation.specs.Multiples.{ModelPlaces}
use Rattle.ps_answer.specs.declared.answer.Cause.{Cause}
use Rattle.ps_answer.specs.declared.answer.Cause.TheVariants.{Wide}
use Rattle.ps_answer.specs.declared.answer.Dual.{Dual}
use Rattle.ps_answer.specs.declared.answer.Model.{Model}
use Rattle.ps_problem.specs.Problems.{AreParts}
use Rattle.ps_claims.specs.declared.claim_kind.ClaimKind.TheVariants.{Nothing}
use Rattle.ps_claims.specs.Validity.{ShowsNothing}
use Rattle.ps_runs.specs.Subjects.{setting_of, given_in, frame_of, program_of}
use Rattle.ps_runs.specs.Subjects.{frame_of, program_of}
use Rattle.ps_runs.specs.Runs.{IsFeasibleAt, IsDualAt}
use Rattle.ps_runs.proofs.Certified.{nothing_at_rest}
use Rattle.ps_claims.specs.Certificates.{dual_of}
use Rattle.ps_runs.specs.Rows.{phase_of}
use Rattle.ps_runs.specs.Tables.{IsUnderWay}
use Rattle.ps_runs.specs.Verdicts.{IsVerdictAt}
use Rattle.ps_runs.proofs.Shapes.{run_table}
use Rattle.ps_runs.proofs.Licensing.{feasible_there}
use Rattle.ps_runs.proofs.Ending.{ended}
use Rattle.ps_generation.specs.Models.{IsTableModel}
use Rattle.ps_runs.specs.declared.state.State.{State}
use Rattle.ps_generation.specs.Phases.{LimitedSubject, IsSpread, stage_of, HasCome, IsDualEnd, IsOpenEnd, IsLeft}
use Rattle.ps_generation.specs.declared.first.First.{First}
use Rattle.ps_generation.specs.declared.first.First.TheVariants as first
use Rattle.ps_generation.specs.Runs.{IsAtStart, IsPhaseOneAnswer, IsValidFirst, IsWholeFirst, GoesOn, HasReached, verdict_of, kept_first}
use Rattle.ps_generation.specs.States.{run_of}
use Rattle.ps_generation.proofs.Models as models
use Rattle.ps_generation.proofs.Ways.{own_way}

module _ (r : LimitedSubject) (old new : State) (start : IsAtStart (run_of r old false)) where
  -- the way with as many pivots left at first as the limit says
  from_start : (trace : List Event) (way : IsUnderWay (program_of Nothing r.subject) r.limits.conflicts (stage_of old) old.left old.trace (record new { trace = trace }))
      → IsUnderWay (program_of Nothing r.subject) r.limits.conflicts (stage_of old) r.limits.pivots [] (record new { trace = way.events })
  from_start trace way =
      subst (λ had. IsUnderWay (program_of Nothing r.subject) r.limits.conflicts (stage_of old) had [] (record new { trace = way.events })) start.left
      (own_way Nothing r.subject r.limits.conflicts (stage_of old) old.left old.trace new.pool new.table trace new.left way)

  answered : (come : HasCome Nothing r old new) (answer : First) → IsVerdictAt (program_of Nothing r.subject) r.limits (stage_of new) new.left (verdict_of (kept_first r.flags answer))
      → IsValidFirst r.subject (kept_first r.flags answer) → IsWholeFirst r answer → GoesOn (run_of r old false) (run_of r new false) come.way.events answer
      → IsPhaseOneAnswer (run_of r old false) (run_of r new false) answer
  answered come answer due valid whole on = record {
    events = come.way.events;
    traced = record { over = refl; appended = come.way.appended };
    lawful = ended (program_of Nothing r.subject) r.limits (stage_of old) new.pool new.table come.way.events new.left start.start (from_start new.trace come.way) (verdict_of (kept_first r.flags answer)) due;
    valid = valid;
    whole = whole;
    goes_on = on;
  }

  -- a table whose basic artificials have value 0
  module _ (come : HasCome Nothing r old new) (done : IsDueToEndIn (phase_of Nothing) new.table) (left : IsLeft Nothing r.subject old new) where
    feasible : IsFeasibleAt (frame_of r.subject) (stage_of new) (entry_at new.table)
    feasible = feasible_there r.subject new.pool new.table left.table done

    reached : HasReached (run_of r old false) (run_of r new false) come.way.events
    reached = record {
      leads = come.way.leads;
      counted = come.way.counted;
      feasible = feasible;
      reached = record {
        feasible = record {
          feasible = done;
          room =
              let none : length old.pool ≡ 0 = ap (λ ws. length ws) start.start.pool in
              let all : old.left ≡ r.limits.pivots = start.left in
              let room : length new.pool + new.left ≤ length old.pool + old.left + 1 = left.room in
              omega arith;
        };
      };
    }

    pub first_reached : (m : Model) → AreParts r.subject.parts → IsTableModel new.table new.pool m → IsPhaseOneAnswer (run_of r old false) (run_of r new false) (first.Reached m)
    first_reached m are is =
        answered come (first.Reached m) (models.model_at r.subject new.pool new.table left.table m feasible is)
        (models.consistent r.subject new.pool new.table left.table m are left.pool_kept feasible is, models.allowed r.subject new.pool new.table left.table m are left.pool_kept feasible is) tt reached

    pub first_wide : (at : WideAt) → IsWideAt (ModelPlaces new.table) at → IsPhaseOneAnswer (run_of r old false) (run_of r new false) (first.Open (Wide at))
    first_wide at wide = answered come (first.Open (Wide at)) (models.model_wide r.subject new.pool new.table left.table Nothing new.left at feasible wide) tt tt tt

  pub first_nothing : (e d : Dual) → IsSpread r e d → HasCome Nothing r old new × IsDualEnd (program_of Nothing r.subject) (stage_of new) (entry_at new.table) e → IsLeft Nothing r.subject old new
      → IsPhaseOneAnswer (run_of r old false) (run_of r new false) (first.Nothing d)
  first_nothing e d spread h left =
      let end = h.1 in
      let shown : ShowsNothing r.subject.parts (given_in r.subject.query) (dual_of e) =
      nothing_at_rest r.subject (stage_of new) (entry_at new.table) (dual_of e) end.numbers (run_table (setting_of r.subject) new.pool new.table left.table) end.rests.resting end.steps in
      let due : IsDualAt (program_of Nothing r.subject) (stage_of new) (dual_of e) = record { table = entry_at new.table; rests = end.rests; none = end.none; numbers = end.numbers } in
      answered h.0 (first.Nothing d) (subst (λ (x : Dual). IsDualAt (program_of Nothing r.subject) (stage_of new) (dual_of x)) (sym spread.numbers) due)
      (subst (λ (x : Dual). ShowsNothing r.subject.parts (given_in r.subject.query) (dual_of x)) (sym spread.numbers) shown)
      (record {
        others = spread.others;
        refuted =
            spread.refuted Nothing (record { signs = shown.refuted.signs; steps = shown.refuted.steps });
      })
      tt

  pub first_open : (cause : Cause) → IsOpenEnd Nothing r old new cause → IsPhaseOneAnswer (run_of r old false) (run_of r new false) (first.Open cause)
  first_open cause end = answered end.come (first.Open cause) end.licensed tt tt tt
