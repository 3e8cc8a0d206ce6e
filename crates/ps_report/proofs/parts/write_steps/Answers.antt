use Rattle.std.proofs.Common.{rules}
use Rattle.std.specs.Result.{IsErr}
use Rattle.ps_answer.specs.declared.item.LineItem.TheVariants.{StepLine}
use Rattle.ps_report.proofs.Sequence.{short_at, items_fault, items_turn}
use Rattle.ps_report.proofs.parts.write_steps.Goals as goal

pub write_step_line-requires-clause-short : goal.write_step_line-requires-clause-short
write_step_line-requires-clause-short g c = short_at StepLine c.args.steps.now c.loop-step.step-index c.step-item.result c.step-item.result c.loop-step-test.true c.step-item.is c.requires.short

pub returns-in_err-write_step_line : goal.returns-in_err-write_step_line
returns-in_err-write_step_line g c =
    let failed : IsErr c.from_residual.result = search rules in
    items_fault g.O.Sink StepLine c.args.steps.now c.loop-step.step-index c.step-item.result c.step-item.result c.loop-step-test.true c.step-item.is c.args.lines.now c.loop-step.lines c.write_step_line.new.lines c.loop-step.invariant _ c.from_residual.result
    (rw c.in_err-write_step_line.was at c.write_step_line.ensures) failed

pub loop-step-preserved : goal.loop-step-preserved
loop-step-preserved g c =
    items_turn g.O.Sink StepLine c.args.steps.now c.loop-step.step-index c.step-item.result c.step-item.result c.loop-step-test.true c.step-item.is c.args.lines.now c.loop-step.lines c.write_step_line.new.lines c.loop-step.invariant
    (rw c.in_ok-write_step_line.was at c.write_step_line.ensures)
