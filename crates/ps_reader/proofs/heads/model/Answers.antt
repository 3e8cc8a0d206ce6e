use Rattle.std.proofs.Common.{◌∙◌, ap, sym, subst, Ok, Err, ◌∷◌}
use Rattle.std.specs.Prelude.{codes}
use Rattle.std.proofs.lemmas.Result.{err_from_is_err_and}
use Rattle.ps_answer.specs.declared.item.LineItem.TheVariants as line
use Rattle.ps_answer.specs.declared.part.Part.TheVariants as part
use Rattle.ps_reader.specs.Cursor.{words_in}
use Rattle.ps_reader.specs.Read.{both, IsItemRead}
use Rattle.ps_reader.proofs.RowWords.{small_kept}
use Rattle.ps_reader.proofs.Sequences.{made_ok, made_err}
use Rattle.ps_reader.proofs.ItemSteps.{model_item}
use Rattle.ps_reader.proofs.heads.model.Goals as goal

pub returns : goal.returns
returns c =
    let h : IsItemRead part.AModel (codes "model" ∷ words_in c.args.words.now) (Ok (line.ModelHead c.in_ok-total.total c.in_ok-total.count)) =
    made_ok part.AModel (codes "model" ∷ words_in c.args.words.now) (λ a. line.ModelHead a.0 a.1.0) c.both-2.result _
    (model_item (words_in c.args.words.now) (words_in c.next.new.self) (words_in c.next-2.new.self) c.next.result.now c.next-2.result.now c.amount-total.result c.count-count.result c.end.result c.both-2.result
    c.next.ensures.word c.next.ensures.later c.next-2.ensures.word c.next-2.ensures.later
    c.amount-total.ensures c.count-count.ensures c.end.ensures (c.both-2.ensures ∙ ap (both c.amount-total.result) c.both.ensures))
    c.in_ok-total.was in
    subst (λ z. IsItemRead part.AModel (codes "model" ∷ words_in c.args.words.now) (Ok (line.ModelHead z c.in_ok-total.count))) (sym (small_kept c.in_ok-total.total h.1.0)) (h)

pub returns-in_err-total : goal.returns-in_err-total
returns-in_err-total c =
    let f = err_from_is_err_and c.from_residual.result c.from_residual.ensures.1 in
    made_err part.AModel (codes "model" ∷ words_in c.args.words.now) (λ a. line.ModelHead a.0 a.1.0) c.both-2.result c.in_err-total.field-0.0 c.from_residual.result
    (model_item (words_in c.args.words.now) (words_in c.next.new.self) (words_in c.next-2.new.self) c.next.result.now c.next-2.result.now c.amount-total.result c.count-count.result c.end.result c.both-2.result
    c.next.ensures.word c.next.ensures.later c.next-2.ensures.word c.next-2.ensures.later
    c.amount-total.ensures c.count-count.ensures c.end.ensures (c.both-2.ensures ∙ ap (both c.amount-total.result) c.both.ensures))
    c.in_err-total.was (f.1 ∙ ap Err f.2)
