use Rattle.std.proofs.lemmas.Result.{IfOk-weaker}
use Rattle.ps_table.specs.Tableau.{entry_at}
use Rattle.ps_runs.proofs.Shapes.{basics_differ}
use Rattle.ps_runs.specs.Subjects.{setting_of}
use Rattle.ps_generation.specs.Phases.{stage_of}
use Rattle.ps_generation.specs.States.{AnswersSide, IsBoundOf}
use Rattle.ps_generation.proofs.Sides.{spread_top, side_bound, side_open, as_many_rows}
use Rattle.ps_generation.proofs.answers.side.Goals as goal

pub bound-requires-clause-apart : goal.bound-requires-clause-apart
bound-requires-clause-apart c =
    let new = c.phase.new.state in
    record { same = basics_differ (setting_of c.args.setting.now.subject) new.pool new.table c.in_ok-phase.ensures.left.table }

pub spread-requires : goal.spread-requires
spread-requires c =
    let new = c.phase.new.state in
    let end = rw c.in-NoneAbove.is at c.in_ok-phase.ensures.end in
    record { rows = as_many_rows c.args.kind c.args.setting.now.subject (stage_of new) (entry_at new.table) c.in-NoneAbove.dual end.1 }

pub bound-requires-clause-top : goal.bound-requires-clause-top
bound-requires-clause-top c =
    let new = c.phase.new.state in
    let end = rw c.in-NoneAbove.is at c.in_ok-phase.ensures.end in
    spread_top c.args.kind c.args.setting.now (stage_of new) (entry_at new.table) c.in-NoneAbove.dual c.in_ok-spread-in-NoneAbove.field-0 c.requires.side end.1 c.in_ok-spread-in-NoneAbove.ensures.spread

pub returns-in_ok-spread-in-NoneAbove-clause-answer : goal.returns-in_ok-spread-in-NoneAbove-clause-answer
returns-in_ok-spread-in-NoneAbove-clause-answer c =
    let end = rw c.in-NoneAbove.is at c.in_ok-phase.ensures.end in
    let new = c.phase.new.state in
    let dual = c.in_ok-spread-in-NoneAbove.field-0 in
    IfOk-weaker c.bound.result (IsBoundOf new dual) (AnswersSide c.args.kind c.args.setting.now c.args.state.now new)
    (side_bound c.args.kind c.args.setting.now c.args.state.now new c.requires.side c.in-NoneAbove.dual end.0 end.1 c.in_ok-phase.ensures.left c.phase.ensures.parts dual c.in_ok-spread-in-NoneAbove.ensures.spread)
    c.bound.ensures.bound

pub returns-in-Open-clause-answer : goal.returns-in-Open-clause-answer
returns-in-Open-clause-answer c =
    let end = rw c.in-Open.is at c.in_ok-phase.ensures.end in
    side_open c.args.kind c.args.setting.now c.args.state.now c.phase.new.state c.requires.side c.in-Open.cause end
