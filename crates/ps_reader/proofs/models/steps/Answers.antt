use Rattle.std.proofs.Common.{◌∙◌, ap, Err, arith, map}
use Rattle.std.proofs.lemmas.Result.{err_from_is_err_and}
use Rattle.ps_answer.specs.declared.item.LineItem.TheVariants as line
use Rattle.ps_answer.specs.declared.part.Part.TheVariants.{AStep}
use Rattle.ps_answer.specs.declared.error.ReportError.TheVariants.{NoMemory}
use Rattle.ps_reader.specs.Taken.{repeated}
use Rattle.ps_reader.proofs.Taking.{takes_push, stopped_within, lack_kept}
use Rattle.ps_reader.proofs.Values.{value_stopped, one_longer, step_passes}
use Rattle.ps_reader.proofs.models.steps.Goals as goal

pub returns-in_err-step-clause-steps : goal.returns-in_err-step-clause-steps
returns-in_err-step-clause-steps c =
    let f = err_from_is_err_and c.from_residual.result c.from_residual.ensures.1 in
    value_stopped (map (λ s. line.StepLine s)) (repeated c.args.count AStep) c.args.lines.now c.step.new.lines c.in_err-step.field-0.0 c.from_residual.result
    (stopped_within (λ s. line.StepLine s) AStep step_passes c.args.lines.now c.loop.lines c.loop.steps c.args.count c.in_err-step.field-0.0
    c.loop.invariant.taken (omega (arith, c.loop-test.true, c.loop.invariant.counted)) c.in_err-step.ensures)
    (f.1 ∙ ap Err f.2)

pub returns-in_err-push-clause-steps : goal.returns-in_err-push-clause-steps
returns-in_err-push-clause-steps c =
    let f = err_from_is_err_and c.from_residual-in_err-push.result c.from_residual-in_err-push.ensures.1 in
    value_stopped (map (λ s. line.StepLine s)) (repeated c.args.count AStep) c.args.lines.now c.step.new.lines NoMemory c.from_residual-in_err-push.result
    (stopped_within (λ s. line.StepLine s) AStep step_passes c.args.lines.now c.loop.lines c.loop.steps c.args.count NoMemory c.loop.invariant.taken (omega (arith, c.loop-test.true, c.loop.invariant.counted))
    (lack_kept c.loop.lines c.step.new.lines AStep (line.StepLine c.in_ok-step.field-0) c.in_ok-step.ensures tt))
    (f.1 ∙ ap Err f.2)

pub loop-preserved : goal.loop-preserved
loop-preserved c = record {
  taken = takes_push (λ s. line.StepLine s) c.args.lines.now c.loop.lines c.step.new.lines c.loop.steps c.push.new.self c.in_ok-step.field-0
      c.loop.invariant.taken c.in_ok-step.ensures c.in_ok-push.ensures.ok;
  counted = one_longer c.loop.steps c.push.new.self c.in_ok-step.field-0 c.loop.counter c.in_ok-push.ensures.ok c.loop.invariant.counted;
}
