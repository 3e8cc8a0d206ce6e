use Rattle.std.proofs.Common.{subst, sym, ap, Err, ◌∙◌}
use Rattle.std.proofs.lemmas.Result.{err_from_is_err_and}
use Rattle.ps_max_text.specs.Faults.{IsMaxRead}
use Rattle.ps_max_text.proofs.WholeTexts.{fault_told, more_told, answer_told}
use Rattle.ps_max_text.proofs.reading.read_max.Goals as goal

pub returns-in_err-answer : goal.returns-in_err-answer
returns-in_err-answer c =
    let f = err_from_is_err_and c.from_residual.result c.from_residual.ensures.1 in
    subst (IsMaxRead c.args.bytes.now) (sym (f.1 ∙ ap Err f.2))
    (fault_told c.args.bytes.now c.of-lines.result c.in_err-answer.field-0.0 c.of-lines.ensures.left c.of-lines.ensures.none_taken c.in_err-answer.ensures)

pub returns-in_err-end : goal.returns-in_err-end
returns-in_err-end c =
    let f = err_from_is_err_and c.from_residual-in_err-end.result c.from_residual-in_err-end.ensures.1 in
    subst (IsMaxRead c.args.bytes.now) (sym (f.1 ∙ ap Err f.2))
    (more_told c.args.bytes.now c.of-lines.result c.answer.new.lines c.in_ok-answer.answer c.in_err-end.field-0.0 c.of-lines.ensures.left c.of-lines.ensures.none_taken c.in_ok-answer.ensures c.in_err-end.ensures.more)

pub returns : goal.returns
returns c = answer_told c.args.bytes.now c.of-lines.result c.answer.new.lines c.in_ok-answer.answer c.of-lines.ensures.left c.in_ok-answer.ensures c.in_ok-end.ensures.none
