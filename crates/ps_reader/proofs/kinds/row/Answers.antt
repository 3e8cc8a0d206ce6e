use Rattle.std.specs.Prelude.{⊤}
use Rattle.std.proofs.Common.{◌≤◌, subst, sym, ap, ◌∙◌, Err}
use Rattle.std.proofs.lemmas.Result.{err_from_is_err_and}
use Rattle.ps_answer.specs.Items.{count}
use Rattle.ps_reader.specs.Numerals.{IsCountUpTo}
use Rattle.ps_reader.specs.Read.{IsWordRead}
use Rattle.ps_reader.proofs.Cut.{count_refused}
use Rattle.ps_reader.proofs.kinds.row.Goals as goal

pub returns-in_err-count_up_to : goal.returns-in_err-count_up_to
returns-in_err-count_up_to c =
    let f = err_from_is_err_and c.from_residual.result c.from_residual.ensures.1 in
    subst (λ r. IsWordRead count (λ n. ⊤) (λ n. n ≤ 100) c.args.word.now r) (sym (f.1 ∙ ap Err f.2))
    (count_refused 100 c.args.word.now c.in_err-count_up_to.field-0.0 (subst (λ r. IsCountUpTo 100 c.args.word.now r) c.in_err-count_up_to.was c.count_up_to.ensures))
