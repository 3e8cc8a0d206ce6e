use Rattle.std.proofs.Common.{◌∙◌, ap, sym, true≢false, subst, Ok, Err, ◌∷◌}
use Rattle.std.specs.Prelude.{codes}
use Rattle.std.proofs.lemmas.Result.{err_from_is_err_and}
use Rattle.ps_reader.specs.Cursor.{words_in}
use Rattle.ps_max_text.specs.Read.{IsItemRead}
use Rattle.ps_max_text.specs.declared.item.MaxItem.TheVariants as line
use Rattle.ps_max_text.specs.declared.part.MaxPart.TheVariants as part
use Rattle.ps_max_text.proofs.Making.{made_ok, made_err}
use Rattle.ps_max_text.proofs.ItemKinds.{best_read, cost_kept}
use Rattle.ps_max_text.proofs.item_reader.best.Goals as goal

pub returns : goal.returns
returns c =
    let h : IsItemRead part.Best (codes "best" ∷ words_in c.args.words.now) (Ok (line.Best c.in_ok-cost.cost)) =
    made_ok part.Best (codes "best" ∷ words_in c.args.words.now) (λ a. line.Best a.0) c.both.result _
    (best_read (words_in c.args.words.now) (words_in c.next-word.new.self) c.next-word.result.now c.amount.result c.end.result c.both.result
    (λ e. true≢false (sym (c.is.ensures.equal.1 (c.next-word.ensures.word ∙ e)) ∙ c.if-is.false)) c.next-word.ensures.word c.next-word.ensures.later c.amount.ensures c.end.ensures c.both.ensures)
    c.in_ok-cost.was in
    subst (λ z. IsItemRead part.Best (codes "best" ∷ words_in c.args.words.now) (Ok (line.Best z))) (sym (cost_kept c.in_ok-cost.cost h.0.proper h.1)) h

pub returns-in_err-cost : goal.returns-in_err-cost
returns-in_err-cost c =
    let f = err_from_is_err_and c.from_residual.result c.from_residual.ensures.1 in
    made_err part.Best (codes "best" ∷ words_in c.args.words.now) (λ a. line.Best a.0) c.both.result c.in_err-cost.field-0.0 c.from_residual.result
    (best_read (words_in c.args.words.now) (words_in c.next-word.new.self) c.next-word.result.now c.amount.result c.end.result c.both.result
    (λ e. true≢false (sym (c.is.ensures.equal.1 (c.next-word.ensures.word ∙ e)) ∙ c.if-is.false)) c.next-word.ensures.word c.next-word.ensures.later c.amount.ensures c.end.ensures c.both.ensures)
    c.in_err-cost.was (f.1 ∙ ap Err f.2)
