use Rattle.std.proofs.Common.{◌∙◌, ap, Err, arith, map}
use Rattle.std.proofs.lemmas.Result.{err_from_is_err_and}
use Rattle.ps_answer.specs.declared.error.ReportError.TheVariants.{NoMemory}
use Rattle.ps_max_text.specs.declared.item.MaxItem.TheVariants as line
use Rattle.ps_max_text.specs.Taken.{just_steps}
use Rattle.ps_max_text.proofs.Taking.{takes_push, stopped_within, value_stopped}
use Rattle.ps_max_text.proofs.Passing.{one_longer}
use Rattle.ps_max_text.proofs.Lacking.{lack_step}
use Rattle.ps_max_text.proofs.reading.steps.Goals as goal

pub returns-in_err-step-clause-steps : goal.returns-in_err-step-clause-steps
returns-in_err-step-clause-steps c =
    let f = err_from_is_err_and c.from_residual.result c.from_residual.ensures.1 in
    value_stopped (map line.StepLine) (just_steps c.args.count) c.args.lines.now c.step.new.lines c.in_err-step.field-0.0 c.from_residual.result
    (stopped_within c.args.lines.now c.loop.lines c.loop.steps c.args.count c.in_err-step.field-0.0
    c.loop.invariant.taken (omega (arith, c.loop-test.true, c.loop.invariant.counted)) c.in_err-step.ensures)
    (f.1 ∙ ap Err f.2)

pub returns-in_err-push-clause-steps : goal.returns-in_err-push-clause-steps
returns-in_err-push-clause-steps c =
    let f = err_from_is_err_and c.from_residual-in_err-push.result c.from_residual-in_err-push.ensures.1 in
    value_stopped (map line.StepLine) (just_steps c.args.count) c.args.lines.now c.step.new.lines NoMemory c.from_residual-in_err-push.result
    (stopped_within c.args.lines.now c.loop.lines c.loop.steps c.args.count NoMemory c.loop.invariant.taken (omega (arith, c.loop-test.true, c.loop.invariant.counted))
    (lack_step c.loop.lines c.step.new.lines c.in_ok-step.field-0 c.in_ok-step.ensures))
    (f.1 ∙ ap Err f.2)

pub loop-preserved : goal.loop-preserved
loop-preserved c = record {
  taken = takes_push c.args.lines.now c.loop.lines c.step.new.lines c.loop.steps c.push.new.self c.in_ok-step.field-0
      c.loop.invariant.taken c.in_ok-step.ensures c.in_ok-push.ensures.ok;
  counted = one_longer c.loop.steps c.push.new.self c.in_ok-step.field-0 c.loop.counter c.in_ok-push.ensures.ok c.loop.invariant.counted;
}
