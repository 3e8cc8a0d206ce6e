use Rattle.std.proofs.Common.{sym, subst, ap, Err, ◌∙◌}
use Rattle.std.proofs.lemmas.Result.{err_from_is_err_and}
use Rattle.ps_reader.specs.Cursor.{words_in}
use Rattle.ps_reader.specs.Rows.{AreRowsRead, TellsNumbers}
use Rattle.ps_reader.proofs.RowWords.{numbers_refused}
use Rattle.ps_reader.proofs.rows.rows.Goals as goal

pub returns-in_err-are_numbers : goal.returns-in_err-are_numbers
returns-in_err-are_numbers c =
    let f = err_from_is_err_and c.from_residual.result c.from_residual.ensures.1 in
    subst (λ r. AreRowsRead (words_in c.args.words.now) r) (sym (f.1 ∙ ap Err f.2))
    (numbers_refused (words_in c.args.words.now) c.in_err-are_numbers.field-0.0 (subst (λ r. TellsNumbers (words_in c.args.words.now) r) c.in_err-are_numbers.was c.are_numbers.ensures))
