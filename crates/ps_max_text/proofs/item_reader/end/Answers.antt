use Rattle.std.proofs.Common.{◌∙◌, ap, Err, ◌∷◌}
use Rattle.std.specs.Prelude.{codes}
use Rattle.std.proofs.lemmas.Result.{err_from_is_err_and}
use Rattle.ps_reader.specs.Cursor.{words_in}
use Rattle.ps_max_text.specs.declared.item.MaxItem.TheVariants as line
use Rattle.ps_max_text.specs.declared.part.MaxPart.TheVariants as part
use Rattle.ps_max_text.proofs.Making.{made_ok, made_err}
use Rattle.ps_max_text.proofs.ItemKinds.{end_read}
use Rattle.ps_max_text.proofs.item_reader.end.Goals as goal

pub returns : goal.returns
returns c = made_ok part.End (codes "end" ∷ words_in c.args.words.now) (λ u. line.End) c.end.result tt (end_read (words_in c.args.words.now) c.end.result c.end.ensures) c.in_ok-end.was

pub returns-in_err-end : goal.returns-in_err-end
returns-in_err-end c =
    let f = err_from_is_err_and c.from_residual.result c.from_residual.ensures.1 in
    made_err part.End (codes "end" ∷ words_in c.args.words.now) (λ u. line.End) c.end.result c.in_err-end.field-0.0 c.from_residual.result (end_read (words_in c.args.words.now) c.end.result c.end.ensures) c.in_err-end.was (f.1 ∙ ap Err f.2)
