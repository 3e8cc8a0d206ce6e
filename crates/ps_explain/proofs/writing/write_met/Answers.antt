use Rattle.std.proofs.Common.{[], ◌∷◌, rules}
use Rattle.std.specs.Result.{IsErr}
use Rattle.ps_answer.specs.declared.item.LineItem.TheVariants as line
use Rattle.ps_answer.specs.Items.{item_line}
use Rattle.ps_answer.specs.Answers.{model_items}
use Rattle.ps_explain.specs.Texts.{lines_of}
use Rattle.ps_explain.proofs.SentLines.{lines_then, lines_stop}
use Rattle.ps_explain.proofs.writing.write_met.Goals as goal

pub returns : goal.returns
returns g c = lines_then g.O.Sink _ _ _ _ (item_line line.Consistent ∷ []) (lines_of (model_items c.args.model.now)) (rw c.in_ok-write_consistent.was at c.write_consistent.ensures) c.write_model.ensures

pub returns-in_err-write_consistent : goal.returns-in_err-write_consistent
returns-in_err-write_consistent g c =
    let failed : IsErr c.from_residual.result = search rules in
    lines_stop g.O.Sink c.args.lines.now c.write_consistent.new.lines _ c.from_residual.result (item_line line.Consistent ∷ []) (lines_of (model_items c.args.model.now)) (rw c.in_err-write_consistent.was at c.write_consistent.ensures) failed
