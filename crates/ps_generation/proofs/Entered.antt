-- A priced world that enters.
use Rattle.std.proofs.Common.{◌≡◌, ℕ, ℤ, List, [], ◌∷◌, ◌++◌, refl, sym, ap, ◌∙◌, subst, arith}
use Rattle.std.proofs.lemmas.List.{length-append}
use Rattle.ps_meaning.specs.Formula.{World}
use Rattle.ps_table.specs.declared.event.Event.{Event}
use Rattle.ps_table.specs.declared.event.Event.TheVariants.{Priced}
use Rattle.ps_table.specs.Worlds.{HasNumber}
use Rattle.ps_table.specs.declared.costs.Costs.{Costs}
use Rattle.ps_table.specs.Tableau.{Tableau, IsTableau, IsAdded, ExtendsSystem}
use Rattle.ps_bland.specs.Ready.{IsReady}
use Rattle.ps_bland.proofs.Ready.{feasible_added}
use Rattle.ps_claims.specs.declared.claim_kind.ClaimKind.{ClaimKind}
use Rattle.ps_claims.specs.declared.claim_kind.ClaimKind.TheVariants.{Nothing, Lower, Upper}
use Rattle.ps_runs.specs.Rows.{phase_of, entries_of, world_cost}
use Rattle.ps_runs.specs.Subjects.{Subject, setting_of, frame_of, program_of}
use Rattle.ps_runs.specs.Tables.{costs_for, IsRunTable}
use Rattle.ps_runs.proofs.Adding.{costs_grow}
use Rattle.ps_runs.proofs.GoingOn.{begun, priced_goes_on, priced_fresh}
use Rattle.ps_runs.proofs.Progress.{moving_after}
use Rattle.ps_runs.proofs.Ready.{ready_first, ready_lower, ready_upper}
use Rattle.ps_runs.specs.declared.state.State.{State}
use Rattle.ps_generation.specs.Phases.{LimitedSubject, stage_of, IsInPhase, HasCome}
use Rattle.ps_generation.specs.Rounds.{IsPricedIn, HasEntered}

same_state : (t : Tableau) (pool more : List World) (trace longer : List Event) (left : ℕ) → more ≡ pool → longer ≡ trace
    → ◌≡◌ {A = State} (record { table = t; pool = pool; trace = trace; left = left }) (record { table = t; pool = more; trace = longer; left = left })
same_state t pool more trace longer left e f = λ i. record { table = t; pool = sym e i; trace = sym f i; left = left }

-- a run's table that has a column more is ready for its phase
ready_with : (kind : ClaimKind) (s : Subject) (costs : Costs) (pool more : List World) (entries : List ℤ) (t u : Tableau) → IsReady (phase_of kind) costs t → IsAdded entries t u
    → IsRunTable (frame_of s) more u → IsReady (phase_of kind) (costs_for kind (setting_of s) more) u
ready_with Nothing s costs pool more entries t u ready added run = ready_first (setting_of s) more u run
ready_with Lower s costs pool more entries t u ready added run = ready_lower (setting_of s) more u run (feasible_added entries t u added ready.fits.0)
ready_with Upper s costs pool more entries t u ready added run = ready_upper (setting_of s) more u run (feasible_added entries t u added ready.fits.0)

module _ (kind : ClaimKind) (r : LimitedSubject) (costs : Costs) (old : State) (w : World) (phase : IsInPhase kind r.subject costs old) (is : IsPricedIn kind r old w) where
  -- the world isn't in the pool
  pub not_there : (at : ℕ) → HasNumber old.pool w at → ⊥
  not_there at there = priced_fresh kind r.subject r.limits.conflicts old.pool old.table w at phase.table is there

  -- with its column
  module _ (u : Tableau) (added : IsAdded (entries_of (setting_of r.subject) w) old.table u) (stands : ExtendsSystem (entries_of (setting_of r.subject) w) old.table u) (tableau : IsTableau u) where
    abbrev grown : State
    grown = record { table = u; pool = old.pool ++ w ∷ []; trace = old.trace ++ Priced w ∷ []; left = old.left }

    grown_come : HasCome kind r old grown
    grown_come = record {
      way =
          priced_goes_on kind r.subject r.limits.conflicts (stage_of old) old.left old.trace old.pool old.table u old.trace old.left w
          (begun (program_of kind r.subject) r.limits.conflicts old.pool old.table old.trace old.left phase.table phase.pool_kept) is added stands tableau;
    }

    longer_is : record { homes = costs.homes; worlds = costs.worlds ++ world_cost kind (setting_of r.subject) w ∷ [] } ≡ costs_for kind (setting_of r.subject) (old.pool ++ w ∷ [])
    longer_is =
        ap (λ (c : Costs). record { homes = c.homes; worlds = c.worlds ++ world_cost kind (setting_of r.subject) w ∷ [] }) phase.costs_are
        ∙ sym (costs_grow kind (setting_of r.subject) old.pool w)

    grown_phase : (more : Costs) → more ≡ costs_for kind (setting_of r.subject) (old.pool ++ w ∷ []) → IsInPhase kind r.subject more grown
    grown_phase more e = record {
      table = grown_come.way.table;
      pool_kept = grown_come.way.pool_kept;
      costs_are = e;
      ready =
          subst (λ (c : Costs). IsReady (phase_of kind) c u) (sym e)
          (ready_with kind r.subject costs old.pool (old.pool ++ w ∷ []) (entries_of (setting_of r.subject) w) old.table u phase.ready added grown_come.way.table);
    }

    grown_moves : HasEntered kind r old grown
    grown_moves = record {
      come = grown_come;
      moves = moving_after kind r.subject r.limits.conflicts old.pool old.table u w phase.table is added;
      pool = let l = length-append old.pool (w ∷ []) in omega (arith, l);
      left = refl;
    }

    pub entered_phase : (more : List World) (longer : List Event) (worlds : List ℤ) → more ≡ old.pool ++ w ∷ [] → longer ≡ old.trace ++ Priced w ∷ []
        → worlds ≡ costs.worlds ++ world_cost kind (setting_of r.subject) w ∷ []
        → IsInPhase kind r.subject (record { homes = costs.homes; worlds = worlds }) (record { table = u; pool = more; trace = longer; left = old.left })
    entered_phase more longer worlds e f g =
        subst (λ (x : State). IsInPhase kind r.subject (record { homes = costs.homes; worlds = worlds }) x)
        (same_state u (old.pool ++ w ∷ []) more (old.trace ++ Priced w ∷ []) longer old.left e f)
        (grown_phase (record { homes = costs.homes; worlds = worlds }) (ap (λ (ws : List ℤ). record { homes = costs.homes; worlds = ws }) g ∙ longer_is))

    pub entered : (more : List World) (longer : List Event) → more ≡ old.pool ++ w ∷ [] → longer ≡ old.trace ++ Priced w ∷ []
        → HasEntered kind r old (record { table = u; pool = more; trace = longer; left = old.left })
    entered more longer e f =
        subst (λ (x : State). HasEntered kind r old x) (same_state u (old.pool ++ w ∷ []) more (old.trace ++ Priced w ∷ []) longer old.left e f) grown_moves
