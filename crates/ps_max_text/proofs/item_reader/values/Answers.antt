use Rattle.std.proofs.Common.{◌∙◌, ap, Err, ◌∷◌}
use Rattle.std.specs.Prelude.{codes}
use Rattle.std.proofs.lemmas.Result.{err_from_is_err_and}
use Rattle.ps_reader.specs.Cursor.{words_in}
use Rattle.ps_max_text.specs.declared.item.MaxItem.TheVariants as line
use Rattle.ps_max_text.specs.declared.part.MaxPart.TheVariants as part
use Rattle.ps_max_text.proofs.Making.{made_ok, made_err}
use Rattle.ps_max_text.proofs.ItemKinds.{values_read}
use Rattle.ps_max_text.proofs.item_reader.values.Goals as goal

pub returns : goal.returns
returns c = made_ok part.Values (codes "v" ∷ words_in c.args.words.now) (λ a. line.Values a.0) c.both.result _
    (values_read (words_in c.args.words.now) (words_in c.next.new.self) c.next.result.now c.values_of-values.result c.end.result c.both.result
    c.next.ensures.word c.next.ensures.later c.values_of-values.ensures c.end.ensures c.both.ensures)
    c.in_ok-values.was

pub returns-in_err-values : goal.returns-in_err-values
returns-in_err-values c =
    let f = err_from_is_err_and c.from_residual.result c.from_residual.ensures.1 in
    made_err part.Values (codes "v" ∷ words_in c.args.words.now) (λ a. line.Values a.0) c.both.result c.in_err-values.field-0.0 c.from_residual.result
    (values_read (words_in c.args.words.now) (words_in c.next.new.self) c.next.result.now c.values_of-values.result c.end.result c.both.result
    c.next.ensures.word c.next.ensures.later c.values_of-values.ensures c.end.ensures c.both.ensures)
    c.in_err-values.was (f.1 ∙ ap Err f.2)
