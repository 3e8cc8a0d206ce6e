use Rattle.std.proofs.Common.{rules, [], ◌∷◌}
use Rattle.std.specs.Result.{IsErr}
use Rattle.ps_answer.specs.declared.item.LineItem.TheVariants as line
use Rattle.ps_report.specs.Written.{bound_item}
use Rattle.ps_report.specs.Parts.{proved_items, open_items}
use Rattle.ps_report.proofs.Sequence.{items_then, items_stop}
use Rattle.ps_report.proofs.sides.write_side.Goals as goal

pub returns-in_ok-write_bound-in-Bound : goal.returns-in_ok-write_bound-in-Bound
returns-in_ok-write_bound-in-Bound g c =
    rw c.in-Bound.is
    (items_then g.O.Sink _ _ _ _ (bound_item c.args.upper c.in-Bound.value ∷ []) (proved_items c.in-Bound.model c.in-Bound.dual c.args.trace.now) (rw c.in_ok-write_bound-in-Bound.was at c.write_bound.ensures) c.write_proved.ensures)

pub returns-in_err-write_bound-in-Bound : goal.returns-in_err-write_bound-in-Bound
returns-in_err-write_bound-in-Bound g c =
    let failed : IsErr c.from_residual.result = search rules in
    rw c.in-Bound.is
    (items_stop g.O.Sink c.args.lines.now c.write_bound.new.lines _ c.from_residual.result (bound_item c.args.upper c.in-Bound.value ∷ []) (proved_items c.in-Bound.model c.in-Bound.dual c.args.trace.now) (rw c.in_err-write_bound-in-Bound.was at c.write_bound.ensures) failed)

pub returns-in_ok-write_open_side-in-Open : goal.returns-in_ok-write_open_side-in-Open
returns-in_ok-write_open_side-in-Open g c =
    rw c.in-Open.is
    (items_then g.O.Sink _ _ _ _ (line.OpenSide c.args.upper ∷ []) (open_items c.in-Open.cause c.args.trace.now) (rw c.in_ok-write_open_side-in-Open.was at c.write_open_side.ensures) c.write_cause_and_trace.ensures)

pub returns-in_err-write_open_side-in-Open : goal.returns-in_err-write_open_side-in-Open
returns-in_err-write_open_side-in-Open g c =
    let failed : IsErr c.from_residual-in_err-write_open_side-in-Open.result = search rules in
    rw c.in-Open.is
    (items_stop g.O.Sink c.args.lines.now c.write_open_side.new.lines _ c.from_residual-in_err-write_open_side-in-Open.result (line.OpenSide c.args.upper ∷ []) (open_items c.in-Open.cause c.args.trace.now) (rw c.in_err-write_open_side-in-Open.was at c.write_open_side.ensures) failed)
