use Rattle.std.specs.Prelude.{⊤}
use Rattle.std.proofs.Common.{◌∙◌, ap, sym, subst, Err, ◌∷◌}
use Rattle.std.specs.Prelude.{codes}
use Rattle.std.proofs.lemmas.Result.{err_from_is_err_and}
use Rattle.ps_table.specs.declared.place.Place.TheVariants as place
use Rattle.ps_answer.specs.Items.{shown_word, IsShownWithin}
use Rattle.ps_reader.specs.Cursor.{words_in}
use Rattle.ps_reader.specs.Read.{IsWordRead}
use Rattle.ps_reader.specs.Places.{IsPlaceRead}
use Rattle.ps_reader.proofs.Cut.{mapped}
use Rattle.ps_reader.proofs.PlaceWords.{scale_read, mapped_err}
use Rattle.ps_reader.proofs.places.scale.Goals as goal

pub returns-in_err-col : goal.returns-in_err-col
returns-in_err-col c =
    let f = err_from_is_err_and c.from_residual.result c.from_residual.ensures.1 in
    mapped_err (λ i. place.Scale i) (codes "scale" ∷ words_in c.args.words.now) (words_in c.next.new.self) c.table_column.result c.in_err-col.field-0.0 c.from_residual.result
    (subst (λ z. IsPlaceRead (codes "scale" ∷ words_in c.args.words.now) z (mapped (λ i. place.Scale i) c.table_column.result)) (sym c.next.ensures.later)
    (scale_read (words_in c.args.words.now) c.table_column.result (subst (λ z. IsWordRead shown_word (λ n. ⊤) IsShownWithin z c.table_column.result) c.next.ensures.word c.table_column.ensures)))
    c.in_err-col.was (f.1 ∙ ap Err f.2)
