use Rattle.std.proofs.Common.{rules}
use Rattle.std.specs.Result.{IsErr}
use Rattle.std.proofs.Common.{[], ◌∷◌}
use Rattle.ps_answer.specs.declared.item.LineItem.TheVariants as line
use Rattle.ps_report.specs.Reports.{run_items}
use Rattle.ps_report.proofs.Sequence.{items_then, items_stop}
use Rattle.ps_report.proofs.queries.write_bounds_answer.Goals as goal

pub returns : goal.returns
returns g c = items_then g.O.Sink _ _ _ _ (line.Bounds ∷ []) (run_items c.args.first.now c.args.sides.now) (rw c.in_ok-write_bounds.was at c.write_bounds.ensures) c.write_trace_and_sides.ensures

pub returns-in_err-write_bounds : goal.returns-in_err-write_bounds
returns-in_err-write_bounds g c =
    let failed : IsErr c.from_residual.result = search rules in
    items_stop g.O.Sink c.args.lines.now c.write_bounds.new.lines _ c.from_residual.result (line.Bounds ∷ []) (run_items c.args.first.now c.args.sides.now) (rw c.in_err-write_bounds.was at c.write_bounds.ensures) failed
