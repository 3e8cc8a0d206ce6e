use Rattle.std.proofs.Common.{◌∙◌, ap, sym, subst, Ok, Err, ◌∷◌}
use Rattle.std.specs.Prelude.{codes}
use Rattle.std.proofs.lemmas.Result.{err_from_is_err_and}
use Rattle.ps_reader.specs.Cursor.{words_in}
use Rattle.ps_max_text.specs.Read.{IsItemRead}
use Rattle.ps_max_text.specs.declared.item.MaxItem.TheVariants as line
use Rattle.ps_max_text.specs.declared.part.MaxPart.TheVariants as part
use Rattle.ps_max_text.proofs.Making.{made_ok, made_err}
use Rattle.ps_max_text.proofs.ItemKinds.{optimum_read, cost_kept}
use Rattle.ps_max_text.proofs.item_reader.optimum.Goals as goal

pub returns : goal.returns
returns c =
    let h : IsItemRead part.Answer (codes "optimum" ∷ words_in c.args.words.now) (Ok (line.Optimum c.in_ok-cost.cost)) =
    made_ok part.Answer (codes "optimum" ∷ words_in c.args.words.now) (λ a. line.Optimum a.0) c.both.result _
    (optimum_read (words_in c.args.words.now) (words_in c.next.new.self) c.next.result.now c.amount-cost.result c.end.result c.both.result
    c.next.ensures.word c.next.ensures.later c.amount-cost.ensures c.end.ensures c.both.ensures)
    c.in_ok-cost.was in
    subst (λ z. IsItemRead part.Answer (codes "optimum" ∷ words_in c.args.words.now) (Ok (line.Optimum z))) (sym (cost_kept c.in_ok-cost.cost h.0.proper h.1)) h

pub returns-in_err-cost : goal.returns-in_err-cost
returns-in_err-cost c =
    let f = err_from_is_err_and c.from_residual.result c.from_residual.ensures.1 in
    made_err part.Answer (codes "optimum" ∷ words_in c.args.words.now) (λ a. line.Optimum a.0) c.both.result c.in_err-cost.field-0.0 c.from_residual.result
    (optimum_read (words_in c.args.words.now) (words_in c.next.new.self) c.next.result.now c.amount-cost.result c.end.result c.both.result
    c.next.ensures.word c.next.ensures.later c.amount-cost.ensures c.end.ensures c.both.ensures)
    c.in_err-cost.was (f.1 ∙ ap Err f.2)
