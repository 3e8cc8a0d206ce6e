use Rattle.std.proofs.Common.{rules}
use Rattle.std.specs.Result.{IsErr}
use Rattle.std.proofs.Common.{true, false}
use Rattle.ps_answer.specs.Answers.{side_items}
use Rattle.ps_report.proofs.Sequence.{items_then, items_stop, short_first, short_last}
use Rattle.ps_report.proofs.queries.write_sides.Goals as goal

pub returns : goal.returns
returns g c = items_then g.O.Sink _ _ _ _ (side_items false c.args.sides.now.lower.now c.args.sides.now.lower_trace.now) (side_items true c.args.sides.now.upper.now c.args.sides.now.upper_trace.now) (rw c.in_ok-write_side.was at c.write_side.ensures) c.write_side-2.ensures

pub write_side-requires-clause-short : goal.write_side-requires-clause-short
write_side-requires-clause-short g c = short_first (side_items false c.args.sides.now.lower.now c.args.sides.now.lower_trace.now) (side_items true c.args.sides.now.upper.now c.args.sides.now.upper_trace.now) c.requires.short

pub write_side-requires-2-clause-short : goal.write_side-requires-2-clause-short
write_side-requires-2-clause-short g c = short_last (side_items false c.args.sides.now.lower.now c.args.sides.now.lower_trace.now) (side_items true c.args.sides.now.upper.now c.args.sides.now.upper_trace.now) c.requires.short

pub returns-in_err-write_side : goal.returns-in_err-write_side
returns-in_err-write_side g c =
    let failed : IsErr c.from_residual.result = search rules in
    items_stop g.O.Sink c.args.lines.now c.write_side.new.lines _ c.from_residual.result (side_items false c.args.sides.now.lower.now c.args.sides.now.lower_trace.now) (side_items true c.args.sides.now.upper.now c.args.sides.now.upper_trace.now) (rw c.in_err-write_side.was at c.write_side.ensures) failed
