use Rattle.std.specs.Prelude.{⊤}
use Rattle.std.proofs.Common.{◌≤◌, ◌∙◌, ap, sym, subst, Err, ◌∷◌}
use Rattle.std.specs.Prelude.{codes}
use Rattle.std.proofs.lemmas.Result.{err_from_is_err_and}
use Rattle.ps_table.specs.declared.place.Place.TheVariants as place
use Rattle.ps_answer.specs.Faults.{first_of}
use Rattle.ps_answer.specs.Items.{count, shown_word, IsShownWithin}
use Rattle.ps_reader.specs.Cursor.{words_in, later}
use Rattle.ps_reader.specs.Read.{IsWordRead}
use Rattle.ps_reader.specs.Places.{IsPlaceRead}
use Rattle.ps_reader.proofs.Cut.{mapped}
use Rattle.ps_reader.proofs.PlaceWords.{minus_read, mapped_err}
use Rattle.ps_reader.proofs.places.minus.Goals as goal

pub returns-in_err-row : goal.returns-in_err-row
returns-in_err-row c =
    let f = err_from_is_err_and c.from_residual.result c.from_residual.ensures.1 in
    mapped_err (λ a. place.Minus a.0 a.1) (codes "minus" ∷ words_in c.args.words.now) (words_in c.next-2.new.self) c.both.result c.in_err-row.field-0.0 c.from_residual.result
    (subst (λ z. IsPlaceRead (codes "minus" ∷ words_in c.args.words.now) z (mapped (λ a. place.Minus a.0 a.1) c.both.result)) (sym (c.next-2.ensures.later ∙ ap later c.next.ensures.later))
    (subst (λ z. IsPlaceRead (codes "minus" ∷ words_in c.args.words.now) (later (later (words_in c.args.words.now))) (mapped (λ a. place.Minus a.0 a.1) z)) (sym c.both.ensures)
    (minus_read (words_in c.args.words.now) c.row-row.result c.table_column-col.result (subst (λ z. IsWordRead count (λ n. ⊤) (λ n. n ≤ 100) z c.row-row.result) c.next.ensures.word c.row-row.ensures)
    (subst (λ z. IsWordRead shown_word (λ n. ⊤) IsShownWithin z c.table_column-col.result) (c.next-2.ensures.word ∙ ap first_of c.next.ensures.later) c.table_column-col.ensures))))
    c.in_err-row.was (f.1 ∙ ap Err f.2)
