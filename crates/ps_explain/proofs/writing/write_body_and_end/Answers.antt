use Rattle.std.proofs.Common.{[], ◌∷◌, rules}
use Rattle.std.specs.Result.{IsErr}
use Rattle.ps_answer.specs.declared.item.LineItem.TheVariants as line
use Rattle.ps_answer.specs.Items.{item_line}
use Rattle.ps_explain.specs.Texts.{body_lines}
use Rattle.ps_explain.proofs.SentLines.{lines_then, lines_stop}
use Rattle.ps_explain.proofs.writing.write_body_and_end.Goals as goal

pub returns : goal.returns
returns g c = lines_then g.O.Sink _ _ _ _ (body_lines c.args.explained.now) (item_line line.End ∷ []) (rw c.in_ok-write_body.was at c.write_body.ensures) c.write_end.ensures

pub returns-in_err-write_body : goal.returns-in_err-write_body
returns-in_err-write_body g c =
    let failed : IsErr c.from_residual.result = search rules in
    lines_stop g.O.Sink c.args.lines.now c.write_body.new.lines _ c.from_residual.result (body_lines c.args.explained.now) (item_line line.End ∷ []) (rw c.in_err-write_body.was at c.write_body.ensures) failed
