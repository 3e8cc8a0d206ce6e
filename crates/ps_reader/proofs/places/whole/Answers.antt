use Rattle.std.specs.Prelude.{⊤}
use Rattle.std.proofs.Common.{◌≤◌, ◌∙◌, ap, sym, subst, Err, ◌∷◌}
use Rattle.std.specs.Prelude.{codes}
use Rattle.std.proofs.lemmas.Result.{err_from_is_err_and}
use Rattle.ps_table.specs.declared.place.Place.TheVariants as place
use Rattle.ps_answer.specs.Items.{count}
use Rattle.ps_reader.specs.Cursor.{words_in}
use Rattle.ps_reader.specs.Read.{IsWordRead}
use Rattle.ps_reader.specs.Places.{IsPlaceRead}
use Rattle.ps_reader.proofs.Cut.{mapped}
use Rattle.ps_reader.proofs.PlaceWords.{whole_read, mapped_err}
use Rattle.ps_reader.proofs.places.whole.Goals as goal

pub returns-in_err-row : goal.returns-in_err-row
returns-in_err-row c =
    let f = err_from_is_err_and c.from_residual.result c.from_residual.ensures.1 in
    mapped_err (λ i. place.Whole i) (codes "whole" ∷ words_in c.args.words.now) (words_in c.next.new.self) c.row.result c.in_err-row.field-0.0 c.from_residual.result
    (subst (λ z. IsPlaceRead (codes "whole" ∷ words_in c.args.words.now) z (mapped (λ i. place.Whole i) c.row.result)) (sym c.next.ensures.later)
    (whole_read (words_in c.args.words.now) c.row.result (subst (λ z. IsWordRead count (λ n. ⊤) (λ n. n ≤ 100) z c.row.result) c.next.ensures.word c.row.ensures)))
    c.in_err-row.was (f.1 ∙ ap Err f.2)
