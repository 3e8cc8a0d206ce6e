use Rattle.ps_table.specs.Tableau.{entry_at}
use Rattle.ps_claims.specs.declared.claim_kind.ClaimKind.TheVariants.{Nothing}
use Rattle.ps_runs.proofs.Shapes.{basics_differ}
use Rattle.ps_generation.specs.Phases.{stage_of}
use Rattle.ps_runs.specs.Subjects.{setting_of}
use Rattle.ps_generation.proofs.Firsts.{first_reached, first_wide, first_nothing, first_open}
use Rattle.ps_generation.proofs.Sides.{as_many_rows}
use Rattle.ps_generation.proofs.answers.first.Goals as goal

pub found_model-requires-clause-apart : goal.found_model-requires-clause-apart
found_model-requires-clause-apart c =
    let new = c.phase.new.state in
    record { same = basics_differ (setting_of c.args.setting.now.subject) new.pool new.table c.in_ok-phase.ensures.left.table }

pub returns-in-Ok-clause-answer : goal.returns-in-Ok-clause-answer
returns-in-Ok-clause-answer c =
    let end = rw c.in-Feasible.is at c.in_ok-phase.ensures.end in
    let found = rw c.in-Ok.is at c.in_ok-model-in-Feasible.ensures.found in
    first_reached c.args.setting.now c.args.state.now c.phase.new.state c.requires.start end.0 end.1 c.in_ok-phase.ensures.left c.in-Ok.model c.phase.ensures.parts found

pub returns-in-Err-clause-answer : goal.returns-in-Err-clause-answer
returns-in-Err-clause-answer c =
    let end = rw c.in-Feasible.is at c.in_ok-phase.ensures.end in
    let found = rw c.in-Err.is at c.in_ok-model-in-Feasible.ensures.found in
    first_wide c.args.setting.now c.args.state.now c.phase.new.state c.requires.start end.0 end.1 c.in_ok-phase.ensures.left c.in-Err.at found

pub spread-requires : goal.spread-requires
spread-requires c =
    let new = c.phase.new.state in
    let end = rw c.in-NoneAbove.is at c.in_ok-phase.ensures.end in
    record { rows = as_many_rows Nothing c.args.setting.now.subject (stage_of new) (entry_at new.table) c.in-NoneAbove.dual end.1 }

pub returns-in_ok-spread-in-NoneAbove-clause-answer : goal.returns-in_ok-spread-in-NoneAbove-clause-answer
returns-in_ok-spread-in-NoneAbove-clause-answer c =
    let end = rw c.in-NoneAbove.is at c.in_ok-phase.ensures.end in
    first_nothing c.args.setting.now c.args.state.now c.phase.new.state c.requires.start c.in-NoneAbove.dual c.in_ok-spread-in-NoneAbove.field-0 c.in_ok-spread-in-NoneAbove.ensures.spread end
    c.in_ok-phase.ensures.left

pub returns-in-Open-clause-answer : goal.returns-in-Open-clause-answer
returns-in-Open-clause-answer c =
    let end = rw c.in-Open.is at c.in_ok-phase.ensures.end in
    first_open c.args.setting.now c.args.state.now c.phase.new.state c.requires.start c.in-Open.cause end
