use Rattle.std.proofs.Common.{true≢false, subst, sym, ap, ◌∙◌, Err}
use Rattle.std.specs.Prelude.{⊤}
use Rattle.std.proofs.lemmas.Result.{err_from_is_err_and}
use Rattle.ps_answer.specs.Items.{IsColWithin, IsShownWithin, shown_word}
use Rattle.ps_answer.specs.Words.{Column}
use Rattle.ps_reader.specs.Read.{IsWordRead}
use Rattle.ps_reader.proofs.Cut.{column_shown}
use Rattle.ps_reader.proofs.kinds.table_column.Goals as goal

pub returns-in_err-column : goal.returns-in_err-column
returns-in_err-column c =
    let f = err_from_is_err_and c.from_residual.result c.from_residual.ensures.1 in
    subst (λ r. IsWordRead shown_word (λ c. ⊤) IsShownWithin c.args.word.now r) (sym (f.1 ∙ ap Err f.2))
    (column_shown c.args.word.now c.in_err-column.field-0.0 (λ e. true≢false (sym (c.is.ensures.equal.1 e) ∙ c.if-is.false))
    (subst (λ r. IsWordRead (λ c. Column c) (λ c. ⊤) IsColWithin c.args.word.now r) c.in_err-column.was c.column.ensures))
