use Rattle.std.proofs.Common.{◌∙◌, ap, Err, ◌∷◌}
use Rattle.std.specs.Prelude.{codes}
use Rattle.std.proofs.lemmas.Result.{err_from_is_err_and}
use Rattle.ps_answer.specs.declared.item.LineItem.TheVariants as line
use Rattle.ps_answer.specs.declared.part.Part.TheVariants as part
use Rattle.ps_reader.specs.Cursor.{words_in}
use Rattle.ps_reader.specs.Read.{both}
use Rattle.ps_reader.proofs.Sequences.{made_ok, made_err}
use Rattle.ps_reader.proofs.ItemSteps.{pivot_item}
use Rattle.ps_reader.proofs.heads.pivot.Goals as goal

pub returns : goal.returns
returns c = made_ok part.AnEvent (codes "p" ∷ words_in c.args.words.now) (λ a. line.PivotLine a.0 a.1.0) c.both-2.result _
    (pivot_item (words_in c.args.words.now) (words_in c.next.new.self) (words_in c.next-2.new.self) c.next.result.now c.next-2.result.now c.column-enter.result c.row-leave.result c.end.result c.both-2.result
    c.next.ensures.word c.next.ensures.later c.next-2.ensures.word c.next-2.ensures.later
    c.column-enter.ensures c.row-leave.ensures c.end.ensures (c.both-2.ensures ∙ ap (both c.column-enter.result) c.both.ensures))
    c.in_ok-enter.was

pub returns-in_err-enter : goal.returns-in_err-enter
returns-in_err-enter c =
    let f = err_from_is_err_and c.from_residual.result c.from_residual.ensures.1 in
    made_err part.AnEvent (codes "p" ∷ words_in c.args.words.now) (λ a. line.PivotLine a.0 a.1.0) c.both-2.result c.in_err-enter.field-0.0 c.from_residual.result
    (pivot_item (words_in c.args.words.now) (words_in c.next.new.self) (words_in c.next-2.new.self) c.next.result.now c.next-2.result.now c.column-enter.result c.row-leave.result c.end.result c.both-2.result
    c.next.ensures.word c.next.ensures.later c.next-2.ensures.word c.next-2.ensures.later
    c.column-enter.ensures c.row-leave.ensures c.end.ensures (c.both-2.ensures ∙ ap (both c.column-enter.result) c.both.ensures))
    c.in_err-enter.was (f.1 ∙ ap Err f.2)
