-- The pivots of `settle`, as what a phase does, and its ends.
use Rattle.std.proofs.Common.{◌≡◌, ℕ, ◌+◌, ◌<◌, ◌≤◌, List, [], ◌∷◌, length, sym, ap, ◌∙◌, subst, arith}
use Rattle.std.proofs.lemmas.List.{length-append}
use Rattle.ps_simplex.specs.Rule.{SimplexTable, IsMoving, IsResting}
use Rattle.ps_meaning.specs.Formula.{World}
use Rattle.ps_meaning.specs.Rational.{Rational}
use Rattle.ps_table.specs.declared.event.Event.{Event}
use Rattle.ps_table.specs.declared.event.Event.TheVariants.{Pivot}
use Rattle.ps_table.specs.declared.costs.Costs.{Costs}
use Rattle.ps_table.specs.declared.error.TableError.{TableError}
use Rattle.ps_table.specs.declared.error.TableError.TheVariants as refused
use Rattle.ps_table.specs.Tableau.{Tableau, IsTableau}
use Rattle.ps_table.specs.Pricing.{cost_at}
use Rattle.ps_simplex.specs.declared.phase.Phase.{Phase}
use Rattle.ps_bland.specs.Rules.{simplex_of, IsDueToEndIn}
use Rattle.ps_bland.specs.Ends.{IsDueWide, IsDueRefusal}
use Rattle.ps_bland.specs.Ready.{IsReady}
use Rattle.ps_bland.specs.Runs as bland
use Rattle.ps_bland.proofs.Counts.{events_counted}
use Rattle.ps_answer.specs.declared.answer.Cause.TheVariants.{Pivots}
use Rattle.ps_claims.specs.declared.claim_kind.ClaimKind.{ClaimKind}
use Rattle.ps_runs.specs.Subjects.{setting_of, program_of}
use Rattle.ps_runs.specs.Rows.{phase_of}
use Rattle.ps_runs.specs.Tables.{costs_for}
use Rattle.ps_runs.proofs.GoingOn.{begun, settled_goes_on}
use Rattle.ps_runs.proofs.Licensing.{resting_there, moving_there, settling_due}
use Rattle.ps_runs.specs.declared.state.State.{State}
use Rattle.ps_generation.specs.declared.end.End.{End}
use Rattle.ps_generation.specs.declared.end.End.TheVariants.{Feasible, Open}
use Rattle.ps_generation.specs.Phases.{LimitedSubject, stage_of, IsInPhase, HasCome, IsEnd, IsEndAt}
use Rattle.ps_generation.specs.Rounds.{HasPivoted, HasRested}

-- a resting table isn't moving
rests_not_moving : (ph : Phase) (t : SimplexTable) (cost : ℕ → Rational) → IsResting ph t cost → IsMoving ph t cost → ⊥
rests_not_moving ph t cost rest moving = rest.none moving.column moving.improves

-- pivots from a moving table to a resting one are some
some_pivots : (phase : Phase) (costs : Costs) (t u : Tableau) (events : List Event) → bland.Run phase costs t events u
    → IsMoving phase (simplex_of t) (cost_at costs) → IsResting phase (simplex_of u) (cost_at costs) → 0 < length events
some_pivots phase costs t u events (bland.still x) moving rest = absurd (rests_not_moving phase (simplex_of x) (cost_at costs) rest moving)
some_pivots phase costs t u events (bland.more x m y es enter leave run lawful pivot on) moving rest = let l = length-append es (Pivot enter leave ∷ []) in omega (arith, l)

-- a state is the other with its table, trace and pivots, where the pool is the same
same_state : (old new : State) → new.pool ≡ old.pool → record { table = new.table; pool = old.pool; trace = new.trace; left = new.left } ≡ new
same_state old new same = λ i. record { table = new.table; pool = sym same i; trace = new.trace; left = new.left }

module _ (kind : ClaimKind) (r : LimitedSubject) (costs : Costs) (old new : State) (phase : IsInPhase kind r.subject costs old) (same : new.pool ≡ old.pool)
    (ran : HasPivoted kind costs old new) (counted : new.left + length new.trace ≡ old.left + length old.trace) (tableau : IsTableau new.table)
    (ready : IsReady (phase_of kind) costs new.table) where
  pub settled_come : HasCome kind r old new
  settled_come =
      subst (λ (x : State). HasCome kind r old x) (same_state old new same) (record {
        way =
            settled_goes_on kind r.subject r.limits.conflicts (stage_of old) old.left old.trace old.pool old.table new.table old.trace new.trace old.left new.left
            (begun (program_of kind r.subject) r.limits.conflicts old.pool old.table old.trace old.left phase.table phase.pool_kept)
            (subst (λ (c : Costs). HasPivoted kind c old new) phase.costs_are ran) counted tableau ready.values;
      })

  costs_there : costs ≡ costs_for kind (setting_of r.subject) new.pool
  costs_there = phase.costs_are ∙ ap (λ (ws : List World). costs_for kind (setting_of r.subject) ws) (sym same)

  pub settled_phase : IsInPhase kind r.subject costs new
  settled_phase = record { table = settled_come.way.table; pool_kept = settled_come.way.pool_kept; costs_are = costs_there; ready = ready }

  pivots_counted : new.left + length ran.events ≡ old.left
  pivots_counted = events_counted old.trace new.trace ran.events old.left new.left ran.appended counted

  pub settled_left : new.left ≤ old.left
  settled_left = let c = pivots_counted in omega (arith, c)

  pub settled_rest : IsResting (phase_of kind) (simplex_of new.table) (cost_at costs) → HasRested kind r old new
  settled_rest rest = record {
    come = settled_come;
    rests =
        resting_there r.subject new.pool new.table settled_come.way.table kind
        (subst (λ (c : Costs). IsResting (phase_of kind) (simplex_of new.table) (cost_at c)) costs_there rest);
    fewer = λ moving.
        let some : 0 < length ran.events =
        some_pivots (phase_of kind) costs old.table new.table ran.events ran.run
        (subst (λ (c : Costs). IsMoving (phase_of kind) (simplex_of old.table) (cost_at c)) (sym phase.costs_are) moving) rest in
        let c = pivots_counted in
        omega (arith, some, c);
  }

  pub settled_done : IsDueToEndIn (phase_of kind) new.table → IsEnd kind r old new Feasible
  settled_done done = (settled_come, done)

  pub settled_out : (limit : ℕ) → limit ≡ r.limits.pivots → IsMoving (phase_of kind) (simplex_of new.table) (cost_at costs) × (new.left ≡ 0)
      → IsEnd kind r old new (Open (Pivots limit))
  settled_out limit is out = record {
    come = settled_come;
    licensed = record {
      limit_is = is;
      none_left = out.1;
      moving =
          moving_there r.subject new.pool new.table settled_come.way.table kind
          (subst (λ (c : Costs). IsMoving (phase_of kind) (simplex_of new.table) (cost_at c)) costs_there out.0);
    };
  }

  pub settled_wide : (e : TableError) (end : End) → IsDueRefusal (phase_of kind) costs new.table new.left e → IsEndAt e end → IsEnd kind r old new end
  settled_wide (refused.Wide at) end due is =
      subst (λ (x : End). IsEnd kind r old new x) (sym is)
      (record {
        come = settled_come;
        licensed =
            settling_due r.subject new.pool new.table settled_come.way.table kind new.left at
            (subst (λ (c : Costs). IsDueWide (phase_of kind) c new.table new.left at) costs_there due);
      })
  settled_wide refused.NoMemory end due is = absurd is
