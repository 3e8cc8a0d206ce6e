use Rattle.std.proofs.Common.{◌∙◌, ap, Err, ◌∷◌}
use Rattle.std.specs.Prelude.{codes}
use Rattle.std.proofs.lemmas.Result.{err_from_is_err_and}
use Rattle.ps_answer.specs.declared.item.LineItem.TheVariants as line
use Rattle.ps_answer.specs.declared.part.Part.TheVariants as part
use Rattle.ps_reader.specs.Cursor.{words_in}
use Rattle.ps_reader.proofs.Sequences.{made_ok, made_err}
use Rattle.ps_reader.proofs.ItemSteps.{conflicts_item}
use Rattle.ps_reader.proofs.openings.open_conflicts.Goals as goal

pub returns : goal.returns
returns c = made_ok part.ACause (codes "open" ∷ codes "conflicts" ∷ words_in c.args.words.now) (λ a. line.OpenConflicts a.0) c.both.result _
    (conflicts_item (words_in c.args.words.now) (words_in c.next.new.self) c.next.result.now c.count-limit.result c.end.result c.both.result
    c.next.ensures.word c.next.ensures.later
    c.count-limit.ensures c.end.ensures c.both.ensures)
    c.in_ok-limit.was

pub returns-in_err-limit : goal.returns-in_err-limit
returns-in_err-limit c =
    let f = err_from_is_err_and c.from_residual.result c.from_residual.ensures.1 in
    made_err part.ACause (codes "open" ∷ codes "conflicts" ∷ words_in c.args.words.now) (λ a. line.OpenConflicts a.0) c.both.result c.in_err-limit.field-0.0 c.from_residual.result
    (conflicts_item (words_in c.args.words.now) (words_in c.next.new.self) c.next.result.now c.count-limit.result c.end.result c.both.result
    c.next.ensures.word c.next.ensures.later
    c.count-limit.ensures c.end.ensures c.both.ensures)
    c.in_err-limit.was (f.1 ∙ ap Err f.2)
