use Rattle.std.proofs.Common.{◌∙◌, ap, sym, subst, Ok, Err, ◌∷◌}
use Rattle.std.specs.Prelude.{codes}
use Rattle.std.proofs.lemmas.Result.{err_from_is_err_and}
use Rattle.ps_answer.specs.declared.item.LineItem.TheVariants as line
use Rattle.ps_answer.specs.declared.part.Part.TheVariants as part
use Rattle.ps_reader.specs.Cursor.{words_in}
use Rattle.ps_reader.specs.Read.{both, IsItemRead}
use Rattle.ps_reader.proofs.RowWords.{small_kept}
use Rattle.ps_reader.proofs.Sequences.{made_ok, made_err}
use Rattle.ps_reader.proofs.ItemSteps.{entry_item}
use Rattle.ps_reader.proofs.heads.entry.Goals as goal

pub returns : goal.returns
returns c =
    let h : IsItemRead part.AnEntry (codes "w" ∷ words_in c.args.words.now) (Ok (line.Entry c.in_ok-weight.weight c.in_ok-weight.world)) =
    made_ok part.AnEntry (codes "w" ∷ words_in c.args.words.now) (λ a. line.Entry a.0 a.1.0) c.both-2.result _
    (entry_item (words_in c.args.words.now) (words_in c.next.new.self) (words_in c.next-2.new.self) c.next.result.now c.next-2.result.now c.amount-weight.result c.world-world.result c.end.result c.both-2.result
    c.next.ensures.word c.next.ensures.later c.next-2.ensures.word c.next-2.ensures.later
    c.amount-weight.ensures c.world-world.ensures c.end.ensures (c.both-2.ensures ∙ ap (both c.amount-weight.result) c.both.ensures))
    c.in_ok-weight.was in
    subst (λ z. IsItemRead part.AnEntry (codes "w" ∷ words_in c.args.words.now) (Ok (line.Entry z c.in_ok-weight.world))) (sym (small_kept c.in_ok-weight.weight h.1.0)) (h)

pub returns-in_err-weight : goal.returns-in_err-weight
returns-in_err-weight c =
    let f = err_from_is_err_and c.from_residual.result c.from_residual.ensures.1 in
    made_err part.AnEntry (codes "w" ∷ words_in c.args.words.now) (λ a. line.Entry a.0 a.1.0) c.both-2.result c.in_err-weight.field-0.0 c.from_residual.result
    (entry_item (words_in c.args.words.now) (words_in c.next.new.self) (words_in c.next-2.new.self) c.next.result.now c.next-2.result.now c.amount-weight.result c.world-world.result c.end.result c.both-2.result
    c.next.ensures.word c.next.ensures.later c.next-2.ensures.word c.next-2.ensures.later
    c.amount-weight.ensures c.world-world.ensures c.end.ensures (c.both-2.ensures ∙ ap (both c.amount-weight.result) c.both.ensures))
    c.in_err-weight.was (f.1 ∙ ap Err f.2)
