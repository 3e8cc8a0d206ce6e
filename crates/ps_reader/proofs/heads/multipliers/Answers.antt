use Rattle.std.proofs.Common.{◌∙◌, ap, Err, ◌∷◌}
use Rattle.std.specs.Prelude.{codes}
use Rattle.std.proofs.lemmas.Result.{err_from_is_err_and}
use Rattle.ps_answer.specs.declared.item.LineItem.TheVariants as line
use Rattle.ps_answer.specs.declared.part.Part.TheVariants as part
use Rattle.ps_reader.specs.Cursor.{words_in}
use Rattle.ps_reader.proofs.Sequences.{made_ok, made_err}
use Rattle.ps_reader.proofs.Items.{rows_read}
use Rattle.ps_reader.proofs.heads.multipliers.Goals as goal

pub returns : goal.returns
returns c = made_ok part.SomeRows (codes "y" ∷ words_in c.args.words.now) (λ zs. line.Rows zs) c.rows.result c.in_ok-rows.rows (rows_read (words_in c.args.words.now) c.rows.result c.rows.ensures) c.in_ok-rows.was

pub returns-in_err-rows : goal.returns-in_err-rows
returns-in_err-rows c =
    let f = err_from_is_err_and c.from_residual.result c.from_residual.ensures.1 in
    made_err part.SomeRows (codes "y" ∷ words_in c.args.words.now) (λ zs. line.Rows zs) c.rows.result c.in_err-rows.field-0.0 c.from_residual.result (rows_read (words_in c.args.words.now) c.rows.result c.rows.ensures) c.in_err-rows.was (f.1 ∙ ap Err f.2)
