-- A state of the run is in a phase once the phase has its costs.
use Rattle.std.proofs.Common.{◌≡◌, ◌≢◌, List, sym, subst}
use Rattle.ps_meaning.specs.Formula.{World}
use Rattle.ps_simplex.specs.Rule.{IsFeasible}
use Rattle.ps_table.specs.declared.costs.Costs.{Costs}
use Rattle.ps_table.specs.Tableau.{Tableau}
use Rattle.ps_bland.specs.Rules.{simplex_of}
use Rattle.ps_bland.specs.Ready.{IsReady}
use Rattle.ps_claims.specs.declared.claim_kind.ClaimKind.{ClaimKind}
use Rattle.ps_claims.specs.declared.claim_kind.ClaimKind.TheVariants.{Nothing, Lower, Upper}
use Rattle.ps_runs.specs.Rows.{Setting, phase_of}
use Rattle.ps_runs.specs.Subjects.{Subject, setting_of, frame_over}
use Rattle.ps_runs.specs.Tables.{costs_for, IsRunTable}
use Rattle.ps_runs.proofs.Ready.{lower_apart, upper_apart, ready_first, ready_lower, ready_upper}
use Rattle.ps_runs.specs.declared.state.State.{State}
use Rattle.ps_generation.specs.Phases.{IsInPhase}
use Rattle.ps_generation.specs.States.{HasRunTable}

ready : (kind : ClaimKind) (s : Setting) (pool : List World) (t : Tableau) → IsRunTable (frame_over s) pool t → (kind ≢ Nothing → IsFeasible (simplex_of t)) → IsReady (phase_of kind) (costs_for kind s pool) t
ready Nothing s pool t run feasible = ready_first s pool t run
ready Lower s pool t run feasible = ready_lower s pool t run (feasible lower_apart)
ready Upper s pool t run feasible = ready_upper s pool t run (feasible upper_apart)

pub in_phase : (kind : ClaimKind) (s : Subject) (costs : Costs) (state : State) → HasRunTable s state → (kind ≢ Nothing → IsFeasible (simplex_of state.table))
    → costs ≡ costs_for kind (setting_of s) state.pool → IsInPhase kind s costs state
in_phase kind s costs state there feasible is = record {
  table = there.table;
  pool_kept = there.pool_kept;
  costs_are = is;
  ready = subst (λ c. IsReady (phase_of kind) c state.table) (sym is) (ready kind (setting_of s) state.pool state.table there.table feasible);
}
