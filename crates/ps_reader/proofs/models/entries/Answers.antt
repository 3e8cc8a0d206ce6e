use Rattle.std.proofs.Common.{◌∙◌, ap, Err, arith, map}
use Rattle.std.proofs.lemmas.Result.{err_from_is_err_and}
use Rattle.ps_answer.specs.Answers.{entry_item}
use Rattle.ps_answer.specs.declared.part.Part.TheVariants.{AnEntry}
use Rattle.ps_answer.specs.declared.error.ReportError.TheVariants.{NoMemory}
use Rattle.ps_reader.specs.Taken.{repeated}
use Rattle.ps_reader.proofs.Taking.{takes_push, stopped_within, lack_kept}
use Rattle.ps_reader.proofs.Values.{value_stopped, one_longer, entry_passes}
use Rattle.ps_reader.proofs.models.entries.Goals as goal

pub returns-in_err-entry-clause-worlds : goal.returns-in_err-entry-clause-worlds
returns-in_err-entry-clause-worlds c =
    let f = err_from_is_err_and c.from_residual.result c.from_residual.ensures.1 in
    value_stopped (map entry_item) (repeated c.args.count AnEntry) c.args.lines.now c.entry.new.lines c.in_err-entry.field-0.0 c.from_residual.result
    (stopped_within entry_item AnEntry entry_passes c.args.lines.now c.loop.lines c.loop.worlds c.args.count c.in_err-entry.field-0.0
    c.loop.invariant.taken (omega (arith, c.loop-test.true, c.loop.invariant.counted)) c.in_err-entry.ensures)
    (f.1 ∙ ap Err f.2)

pub returns-in_err-push-clause-worlds : goal.returns-in_err-push-clause-worlds
returns-in_err-push-clause-worlds c =
    let f = err_from_is_err_and c.from_residual-in_err-push.result c.from_residual-in_err-push.ensures.1 in
    value_stopped (map entry_item) (repeated c.args.count AnEntry) c.args.lines.now c.entry.new.lines NoMemory c.from_residual-in_err-push.result
    (stopped_within entry_item AnEntry entry_passes c.args.lines.now c.loop.lines c.loop.worlds c.args.count NoMemory c.loop.invariant.taken (omega (arith, c.loop-test.true, c.loop.invariant.counted))
    (lack_kept c.loop.lines c.entry.new.lines AnEntry (entry_item c.in_ok-entry.field-0) c.in_ok-entry.ensures tt))
    (f.1 ∙ ap Err f.2)

pub loop-preserved : goal.loop-preserved
loop-preserved c = record {
  taken = takes_push entry_item c.args.lines.now c.loop.lines c.entry.new.lines c.loop.worlds c.push.new.self c.in_ok-entry.field-0
      c.loop.invariant.taken c.in_ok-entry.ensures c.in_ok-push.ensures.ok;
  counted = one_longer c.loop.worlds c.push.new.self c.in_ok-entry.field-0 c.loop.counter c.in_ok-push.ensures.ok c.loop.invariant.counted;
}
