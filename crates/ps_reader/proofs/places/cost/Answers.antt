use Rattle.std.specs.Prelude.{⊤}
use Rattle.std.proofs.Common.{◌≤◌, ◌∙◌, ap, sym, subst, Err, ◌∷◌}
use Rattle.std.specs.Prelude.{codes}
use Rattle.std.proofs.lemmas.Result.{err_from_is_err_and}
use Rattle.ps_table.specs.declared.place.Place.TheVariants as place
use Rattle.ps_answer.specs.Faults.{first_of}
use Rattle.ps_answer.specs.Items.{count, IsColWithin}
use Rattle.ps_answer.specs.Words.{Column}
use Rattle.ps_reader.specs.Cursor.{words_in, later}
use Rattle.ps_reader.specs.Read.{IsWordRead}
use Rattle.ps_reader.specs.Places.{IsPlaceRead}
use Rattle.ps_reader.proofs.Cut.{mapped}
use Rattle.ps_reader.proofs.PlaceWords.{cost_read, mapped_err}
use Rattle.ps_reader.proofs.places.cost.Goals as goal

pub returns-in_err-col : goal.returns-in_err-col
returns-in_err-col c =
    let f = err_from_is_err_and c.from_residual.result c.from_residual.ensures.1 in
    mapped_err (λ a. place.Cost a.0 a.1) (codes "cost" ∷ words_in c.args.words.now) (words_in c.next-2.new.self) c.both.result c.in_err-col.field-0.0 c.from_residual.result
    (subst (λ z. IsPlaceRead (codes "cost" ∷ words_in c.args.words.now) z (mapped (λ a. place.Cost a.0 a.1) c.both.result)) (sym (c.next-2.ensures.later ∙ ap later c.next.ensures.later))
    (subst (λ z. IsPlaceRead (codes "cost" ∷ words_in c.args.words.now) (later (later (words_in c.args.words.now))) (mapped (λ a. place.Cost a.0 a.1) z)) (sym c.both.ensures)
    (cost_read (words_in c.args.words.now) c.column-col.result c.row-row.result (subst (λ z. IsWordRead Column (λ n. ⊤) IsColWithin z c.column-col.result) c.next.ensures.word c.column-col.ensures)
    (subst (λ z. IsWordRead count (λ n. ⊤) (λ n. n ≤ 100) z c.row-row.result) (c.next-2.ensures.word ∙ ap first_of c.next.ensures.later) c.row-row.ensures))))
    c.in_err-col.was (f.1 ∙ ap Err f.2)
