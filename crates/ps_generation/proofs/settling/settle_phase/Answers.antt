use Rattle.std.proofs.Common.{rules, ◌≡◌, ap}
use Rattle.ps_simplex.specs.Rule.{IsMoving, IsResting}
use Rattle.ps_table.specs.Pricing.{cost_at}
use Rattle.ps_bland.specs.Rules.{simplex_of, IsDueToEndIn}
use Rattle.ps_bland.specs.Ends.{IsDueRefusal}
use Rattle.ps_runs.specs.Rows.{phase_of}
use Rattle.ps_generation.specs.Phases.{IsInPhase}
use Rattle.ps_generation.proofs.Settled.{settled_phase, settled_rest, settled_done, settled_out, settled_wide}
use Rattle.ps_generation.specs.Counts.{SettlesInFewerThanBases}
use Rattle.ps_generation.proofs.Counted.{few_between}
use Rattle.ps_generation.proofs.settling.settle_phase.Goals as goal
use Rattle.ps_generation.proofs.settling.settle_phase.Goals.{After-settle_table}

phase_kept : (c : After-settle_table) → IsInPhase c.args.kind c.args.setting.now.subject c.args.costs.now c.settle_table.new.state
phase_kept c =
    settled_phase c.args.kind c.args.setting.now c.args.costs.now c.args.state.now c.settle_table.new.state c.requires.phase c.settle_table.ensures.pool c.settle_table.ensures.ran c.settle_table.ensures.count
    c.settle_table.ensures.tableau c.settle_table.ensures.ready

fewer : (c : After-settle_table) → SettlesInFewerThanBases c.args.setting.now.subject c.args.state.now c.settle_table.new.state
fewer c = few_between c.args.kind c.args.setting.now.subject c.args.costs.now c.args.state.now c.settle_table.new.state c.requires.phase c.settle_table.ensures.fewer

pub returns-in-Ok-AtRest-clause-phase : goal.returns-in-Ok-AtRest-clause-phase
returns-in-Ok-AtRest-clause-phase c = phase_kept (goal.at.returns-in-Ok-AtRest-clause-phase c).After-settle_table

pub returns-in-Ok-AtRest-clause-end : goal.returns-in-Ok-AtRest-clause-end
returns-in-Ok-AtRest-clause-end c =
    let rest : IsResting (phase_of c.args.kind) (simplex_of c.settle_table.new.state.table) (cost_at c.args.costs.now) = search rules in
    settled_rest c.args.kind c.args.setting.now c.args.costs.now c.args.state.now c.settle_table.new.state c.requires.phase c.settle_table.ensures.pool c.settle_table.ensures.ran c.settle_table.ensures.count
    c.settle_table.ensures.tableau c.settle_table.ensures.ready rest

pub returns-in-Ok-Feasible-clause-phase : goal.returns-in-Ok-Feasible-clause-phase
returns-in-Ok-Feasible-clause-phase c = phase_kept (goal.at.returns-in-Ok-Feasible-clause-phase c).After-settle_table

pub returns-in-Ok-Feasible-clause-end : goal.returns-in-Ok-Feasible-clause-end
returns-in-Ok-Feasible-clause-end c =
    let done : IsDueToEndIn (phase_of c.args.kind) c.settle_table.new.state.table = rw c.in-Ok-Feasible.field-0-is at c.in-Ok-Feasible.ensures.end in
    settled_done c.args.kind c.args.setting.now c.args.costs.now c.args.state.now c.settle_table.new.state c.requires.phase c.settle_table.ensures.pool c.settle_table.ensures.ran c.settle_table.ensures.count
    c.settle_table.ensures.tableau c.settle_table.ensures.ready done

pub returns-in-Ok-OutOfPivots-clause-phase : goal.returns-in-Ok-OutOfPivots-clause-phase
returns-in-Ok-OutOfPivots-clause-phase c = phase_kept (goal.at.returns-in-Ok-OutOfPivots-clause-phase c).After-settle_table

pub returns-in-Ok-OutOfPivots-clause-end : goal.returns-in-Ok-OutOfPivots-clause-end
returns-in-Ok-OutOfPivots-clause-end c =
    let out : IsMoving (phase_of c.args.kind) (simplex_of c.settle_table.new.state.table) (cost_at c.args.costs.now) × (c.settle_table.new.state.left ≡ 0) = search rules in
    let limit : c.limits.result.pivots ≡ c.args.setting.now.limits.pivots = ap (λ l. l.pivots) c.limits.ensures.value in
    settled_out c.args.kind c.args.setting.now c.args.costs.now c.args.state.now c.settle_table.new.state c.requires.phase c.settle_table.ensures.pool c.settle_table.ensures.ran c.settle_table.ensures.count
    c.settle_table.ensures.tableau c.settle_table.ensures.ready c.limits.result.pivots limit out

pub returns-in_ok-end_at-in-Err-clause-phase : goal.returns-in_ok-end_at-in-Err-clause-phase
returns-in_ok-end_at-in-Err-clause-phase c = phase_kept (goal.at.returns-in_ok-end_at-in-Err-clause-phase c).After-settle_table

pub returns-in_ok-end_at-in-Err-clause-end : goal.returns-in_ok-end_at-in-Err-clause-end
returns-in_ok-end_at-in-Err-clause-end c =
    let due : IsDueRefusal (phase_of c.args.kind) c.args.costs.now c.settle_table.new.state.table c.settle_table.new.state.left c.in-Err.refused = search rules in
    settled_wide c.args.kind c.args.setting.now c.args.costs.now c.args.state.now c.settle_table.new.state c.requires.phase c.settle_table.ensures.pool
    c.settle_table.ensures.ran c.settle_table.ensures.count c.settle_table.ensures.tableau c.settle_table.ensures.ready c.in-Err.refused c.in_ok-end_at-in-Err.field-0 due c.in_ok-end_at-in-Err.ensures.end

pub returns-in_err-end_at-in-Err-clause-phase : goal.returns-in_err-end_at-in-Err-clause-phase
returns-in_err-end_at-in-Err-clause-phase c = phase_kept (goal.at.returns-in_err-end_at-in-Err-clause-phase c).After-settle_table

pub returns-in-Ok-AtRest-clause-fewer : goal.returns-in-Ok-AtRest-clause-fewer
returns-in-Ok-AtRest-clause-fewer c = fewer (goal.at.returns-in-Ok-AtRest-clause-fewer c).After-settle_table

pub returns-in-Ok-Feasible-clause-fewer : goal.returns-in-Ok-Feasible-clause-fewer
returns-in-Ok-Feasible-clause-fewer c = fewer (goal.at.returns-in-Ok-Feasible-clause-fewer c).After-settle_table

pub returns-in-Ok-OutOfPivots-clause-fewer : goal.returns-in-Ok-OutOfPivots-clause-fewer
returns-in-Ok-OutOfPivots-clause-fewer c = fewer (goal.at.returns-in-Ok-OutOfPivots-clause-fewer c).After-settle_table

pub returns-in_ok-end_at-in-Err-clause-fewer : goal.returns-in_ok-end_at-in-Err-clause-fewer
returns-in_ok-end_at-in-Err-clause-fewer c = fewer (goal.at.returns-in_ok-end_at-in-Err-clause-fewer c).After-settle_table

pub returns-in_err-end_at-in-Err-clause-fewer : goal.returns-in_err-end_at-in-Err-clause-fewer
returns-in_err-end_at-in-Err-clause-fewer c = fewer (goal.at.returns-in_err-end_at-in-Err-clause-fewer c).After-settle_table
