use Rattle.std.proofs.Common.{rules}
use Rattle.std.specs.Result.{IsErr}
use Rattle.ps_log.specs.Texts.{step_line}
use Rattle.ps_max_text.proofs.Sequence.{short_at, lines_fault, lines_turn}
use Rattle.ps_max_text.proofs.writing.write_steps.Goals as goal

pub write_step-requires-clause-short : goal.write_step-requires-clause-short
write_step-requires-clause-short g c = short_at step_line c.args.steps.now c.loop-step.step-index c.step-item.result c.step-item.result c.loop-step-test.true c.step-item.is c.requires.short

pub returns-in_err-write_step : goal.returns-in_err-write_step
returns-in_err-write_step g c =
    let failed : IsErr c.from_residual.result = search rules in
    lines_fault g.O.Sink step_line c.args.steps.now c.loop-step.step-index c.step-item.result c.step-item.result c.loop-step-test.true c.step-item.is c.args.lines.now c.loop-step.lines c.write_step.new.lines c.loop-step.invariant _ c.from_residual.result
    (rw c.in_err-write_step.was at c.write_step.ensures) failed

pub loop-step-preserved : goal.loop-step-preserved
loop-step-preserved g c =
    lines_turn g.O.Sink step_line c.args.steps.now c.loop-step.step-index c.step-item.result c.step-item.result c.loop-step-test.true c.step-item.is c.args.lines.now c.loop-step.lines c.write_step.new.lines c.loop-step.invariant
    (rw c.in_ok-write_step.was at c.write_step.ensures)
