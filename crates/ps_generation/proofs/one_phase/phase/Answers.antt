use Rattle.ps_generation.proofs.Ready.{in_phase}
use Rattle.ps_generation.proofs.one_phase.phase.Goals as goal

pub run_phase-requires-clause-phase : goal.run_phase-requires-clause-phase
run_phase-requires-clause-phase c =
    in_phase c.args.kind c.args.setting.now.subject c.in_ok-costs.costs c.args.state.now c.requires.there c.requires.feasible c.in_ok-costs.ensures.costs
