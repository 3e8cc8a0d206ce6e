use Rattle.std.proofs.Common.{rules, refl}
use Rattle.ps_claims.specs.declared.claim_kind.ClaimKind.TheVariants.{Nothing}
use Rattle.ps_generation.specs.States.{HasRunTable}
use Rattle.ps_generation.proofs.Ready.{in_phase}
use Rattle.ps_solver_tests.proofs.generation.end_of.Goals as goal

pub run_phase-requires-clause-phase : goal.run_phase-requires-clause-phase
run_phase-requires-clause-phase c =
    let s = c.args.setting.now.subject in
    let there : HasRunTable s c.args.state.now = search rules in
    in_phase Nothing s c.in_ok-costs.costs c.args.state.now there (λ side. absurd (side refl)) c.in_ok-costs.ensures.costs
