use Rattle.std.proofs.Common.{◌^◌, pos, ◌≤ℤ◌, subst, sym, ap, ◌∙◌, Err}
use Rattle.std.proofs.lemmas.Result.{err_from_is_err_and}
use Rattle.ps_answer.specs.Items.{IsPrintable}
use Rattle.ps_answer.specs.Words.{Number}
use Rattle.ps_reader.specs.Numerals.{IsCountUpTo}
use Rattle.ps_reader.specs.Read.{IsWordRead}
use Rattle.ps_reader.proofs.Cut.{amount_refused}
use Rattle.ps_reader.proofs.kinds.amount.Goals as goal

pub returns-in_err-count_up_to : goal.returns-in_err-count_up_to
returns-in_err-count_up_to c =
    let f = err_from_is_err_and c.from_residual.result c.from_residual.ensures.1 in
    subst (λ r. IsWordRead (λ z. Number z) (λ z. pos 0 ≤ℤ z) IsPrintable c.args.word.now r) (sym (f.1 ∙ ap Err f.2))
    (amount_refused (2 ^ 90) c.args.word.now c.in_err-count_up_to.field-0.0 (subst (λ r. IsCountUpTo (2 ^ 90) c.args.word.now r) c.in_err-count_up_to.was c.count_up_to.ensures))
