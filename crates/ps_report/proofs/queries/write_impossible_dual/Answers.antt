use Rattle.std.proofs.Common.{rules}
use Rattle.std.specs.Result.{IsErr}
use Rattle.std.proofs.Common.{[], ◌∷◌, ◌++◌}
use Rattle.ps_answer.specs.declared.item.LineItem.TheVariants as line
use Rattle.ps_answer.specs.Answers.{dual_items, trace_items}
use Rattle.ps_report.proofs.Sequence.{items_then, items_stop}
use Rattle.ps_report.proofs.queries.write_impossible_dual.Goals as goal

pub returns : goal.returns
returns g c = items_then g.O.Sink _ _ _ _ (line.Impossible ∷ []) (dual_items c.args.dual.now ++ trace_items c.args.first.now) (rw c.in_ok-write_impossible.was at c.write_impossible.ensures) c.write_dual_and_trace.ensures

pub returns-in_err-write_impossible : goal.returns-in_err-write_impossible
returns-in_err-write_impossible g c =
    let failed : IsErr c.from_residual.result = search rules in
    items_stop g.O.Sink c.args.lines.now c.write_impossible.new.lines _ c.from_residual.result (line.Impossible ∷ []) (dual_items c.args.dual.now ++ trace_items c.args.first.now) (rw c.in_err-write_impossible.was at c.write_impossible.ensures) failed
