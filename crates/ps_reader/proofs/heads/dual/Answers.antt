use Rattle.std.proofs.Common.{◌∙◌, ap, sym, subst, Ok, Err, ◌∷◌, to_z, of_z}
use mir.Syntax.{w128}
use Rattle.std.specs.Prelude.{codes}
use Rattle.std.proofs.lemmas.Result.{err_from_is_err_and}
use Rattle.ps_answer.specs.declared.item.LineItem.TheVariants as line
use Rattle.ps_answer.specs.declared.part.Part.TheVariants as part
use Rattle.ps_reader.specs.Cursor.{words_in}
use Rattle.ps_reader.specs.Read.{both, IsItemRead}
use Rattle.ps_reader.proofs.RowWords.{small_kept}
use Rattle.ps_reader.proofs.Sequences.{made_ok, made_err}
use Rattle.ps_reader.proofs.ItemSteps.{dual_item}
use Rattle.ps_reader.proofs.heads.dual.Goals as goal

pub returns : goal.returns
returns c =
    let h : IsItemRead part.ADual (codes "dual" ∷ words_in c.args.words.now) (Ok (line.DualHead c.in_ok-top.top c.in_ok-top.head c.in_ok-top.count)) =
    made_ok part.ADual (codes "dual" ∷ words_in c.args.words.now) (λ a. line.DualHead a.0 a.1.0 a.1.1.0) c.both-3.result _
    (dual_item (words_in c.args.words.now) (words_in c.next.new.self) (words_in c.next-2.new.self) (words_in c.next-3.new.self) c.next.result.now c.next-2.result.now c.next-3.result.now c.amount-top.result c.number-head.result c.count-count.result c.end.result c.both-3.result
    c.next.ensures.word c.next.ensures.later c.next-2.ensures.word c.next-2.ensures.later c.next-3.ensures.word c.next-3.ensures.later
    c.amount-top.ensures c.number-head.ensures c.count-count.ensures c.end.ensures (c.both-3.ensures ∙ ap (both c.amount-top.result) (c.both-2.ensures ∙ ap (both c.number-head.result) c.both.ensures)))
    c.in_ok-top.was in
    subst (λ z. IsItemRead part.ADual (codes "dual" ∷ words_in c.args.words.now) (Ok (line.DualHead (to_z w128 (of_z w128 c.in_ok-top.top)) z c.in_ok-top.count))) (sym (small_kept c.in_ok-top.head h.1.1)) (subst (λ z. IsItemRead part.ADual (codes "dual" ∷ words_in c.args.words.now) (Ok (line.DualHead z c.in_ok-top.head c.in_ok-top.count))) (sym (small_kept c.in_ok-top.top h.1.0)) (h))

pub returns-in_err-top : goal.returns-in_err-top
returns-in_err-top c =
    let f = err_from_is_err_and c.from_residual.result c.from_residual.ensures.1 in
    made_err part.ADual (codes "dual" ∷ words_in c.args.words.now) (λ a. line.DualHead a.0 a.1.0 a.1.1.0) c.both-3.result c.in_err-top.field-0.0 c.from_residual.result
    (dual_item (words_in c.args.words.now) (words_in c.next.new.self) (words_in c.next-2.new.self) (words_in c.next-3.new.self) c.next.result.now c.next-2.result.now c.next-3.result.now c.amount-top.result c.number-head.result c.count-count.result c.end.result c.both-3.result
    c.next.ensures.word c.next.ensures.later c.next-2.ensures.word c.next-2.ensures.later c.next-3.ensures.word c.next-3.ensures.later
    c.amount-top.ensures c.number-head.ensures c.count-count.ensures c.end.ensures (c.both-3.ensures ∙ ap (both c.amount-top.result) (c.both-2.ensures ∙ ap (both c.number-head.result) c.both.ensures)))
    c.in_err-top.was (f.1 ∙ ap Err f.2)
