use Rattle.std.proofs.Common.{rules}
use Rattle.std.specs.Result.{IsErr}
use Rattle.ps_answer.specs.Answers.{cause_items}
use Rattle.ps_explain.specs.Texts.{lines_of, list_and_trace}
use Rattle.ps_explain.proofs.SentLines.{lines_then, lines_stop}
use Rattle.ps_explain.proofs.writing.write_open.Goals as goal

pub returns : goal.returns
returns g c = lines_then g.O.Sink _ _ _ _ (lines_of (cause_items c.args.cause.now)) (list_and_trace c.args.sentences.now c.args.first.now) (rw c.in_ok-write_cause.was at c.write_cause.ensures) c.write_list_and_trace.ensures

pub returns-in_err-write_cause : goal.returns-in_err-write_cause
returns-in_err-write_cause g c =
    let failed : IsErr c.from_residual.result = search rules in
    lines_stop g.O.Sink c.args.lines.now c.write_cause.new.lines _ c.from_residual.result (lines_of (cause_items c.args.cause.now)) (list_and_trace c.args.sentences.now c.args.first.now) (rw c.in_err-write_cause.was at c.write_cause.ensures) failed
