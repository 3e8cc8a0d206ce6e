use Rattle.std.proofs.Common.{◌∙◌, ap, Err, ◌∷◌}
use Rattle.std.specs.Prelude.{codes}
use Rattle.std.proofs.lemmas.Result.{err_from_is_err_and}
use Rattle.ps_answer.specs.declared.item.LineItem.TheVariants as line
use Rattle.ps_answer.specs.declared.part.Part.TheVariants as part
use Rattle.ps_reader.specs.Cursor.{words_in}
use Rattle.ps_reader.proofs.Sequences.{made_ok, made_err}
use Rattle.ps_reader.proofs.ItemSteps.{trace_item}
use Rattle.ps_reader.proofs.heads.trace.Goals as goal

pub returns : goal.returns
returns c = made_ok part.ATrace (codes "t" ∷ words_in c.args.words.now) (λ a. line.TraceHead a.0) c.both.result _
    (trace_item (words_in c.args.words.now) (words_in c.next.new.self) c.next.result.now c.count-count.result c.end.result c.both.result
    c.next.ensures.word c.next.ensures.later
    c.count-count.ensures c.end.ensures c.both.ensures)
    c.in_ok-count.was

pub returns-in_err-count : goal.returns-in_err-count
returns-in_err-count c =
    let f = err_from_is_err_and c.from_residual.result c.from_residual.ensures.1 in
    made_err part.ATrace (codes "t" ∷ words_in c.args.words.now) (λ a. line.TraceHead a.0) c.both.result c.in_err-count.field-0.0 c.from_residual.result
    (trace_item (words_in c.args.words.now) (words_in c.next.new.self) c.next.result.now c.count-count.result c.end.result c.both.result
    c.next.ensures.word c.next.ensures.later
    c.count-count.ensures c.end.ensures c.both.ensures)
    c.in_err-count.was (f.1 ∙ ap Err f.2)
