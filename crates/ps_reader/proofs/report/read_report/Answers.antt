use Rattle.std.proofs.Common.{sym, ap, subst, Err, ◌∙◌}
use Rattle.std.specs.Prelude.{IfErr}
use Rattle.std.proofs.lemmas.Result.{err_from_is_err_and}
use Rattle.ps_reader.specs.Errors.{TellsFault}
use Rattle.ps_reader.proofs.Whole.{fault_told, more_told}
use Rattle.ps_reader.proofs.report.read_report.Goals as goal

pub returns-in_err-answer-clause-told : goal.returns-in_err-answer-clause-told
returns-in_err-answer-clause-told c =
    let f = err_from_is_err_and c.from_residual.result c.from_residual.ensures.1 in
    subst (λ r. IfErr r (λ e. TellsFault c.args.bytes.now e)) (sym (f.1 ∙ ap Err f.2))
    (fault_told c.args.bytes.now c.of-lines.result c.in_err-answer.field-0.0 c.of-lines.ensures.left c.of-lines.ensures.none_taken c.in_err-answer.ensures.answer)

pub returns-in_err-end-clause-told : goal.returns-in_err-end-clause-told
returns-in_err-end-clause-told c =
    let f = err_from_is_err_and c.from_residual-in_err-end.result c.from_residual-in_err-end.ensures.1 in
    subst (λ r. IfErr r (λ e. TellsFault c.args.bytes.now e)) (sym (f.1 ∙ ap Err f.2))
    (more_told c.args.bytes.now c.of-lines.result c.answer.new.lines c.in_ok-answer.answer c.in_err-end.field-0.0 c.of-lines.ensures.left c.of-lines.ensures.none_taken c.in_ok-answer.ensures.answer c.in_ok-answer.ensures.counted c.in_err-end.ensures.more)
