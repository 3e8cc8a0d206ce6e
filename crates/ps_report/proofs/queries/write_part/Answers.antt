use Rattle.std.proofs.Common.{rules}
use Rattle.std.specs.Result.{IsErr}
use Rattle.std.proofs.Common.{[], ◌∷◌}
use Rattle.ps_answer.specs.declared.item.LineItem.TheVariants as line
use Rattle.ps_answer.specs.Answers.{query_items}
use Rattle.ps_report.proofs.Sequence.{items_then, items_stop}
use Rattle.ps_report.proofs.queries.write_part.Goals as goal

pub returns : goal.returns
returns g c = items_then g.O.Sink _ _ _ _ (line.Query c.args.number ∷ []) (query_items c.args.part.now.answer c.args.part.now.first) (rw c.in_ok-write_query.was at c.write_query.ensures) (rw c.as_slice.ensures at c.write_query_answer.ensures)

pub returns-in_err-write_query : goal.returns-in_err-write_query
returns-in_err-write_query g c =
    let failed : IsErr c.from_residual.result = search rules in
    items_stop g.O.Sink c.args.lines.now c.write_query.new.lines _ c.from_residual.result (line.Query c.args.number ∷ []) (query_items c.args.part.now.answer c.args.part.now.first) (rw c.in_err-write_query.was at c.write_query.ensures) failed
