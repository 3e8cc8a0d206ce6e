use Rattle.std.proofs.Common.{[], ◌∷◌, map}
use Rattle.ps_answer.specs.declared.item.LineItem.TheVariants as line
use Rattle.ps_report.proofs.Sequence.{items_then}
use Rattle.ps_report.proofs.parts.write_rows_and_steps.Goals as goal

pub returns : goal.returns
returns g c = items_then g.O.Sink _ _ _ _ (line.Rows c.args.dual.now.rows ∷ []) (map line.StepLine c.args.dual.now.steps) (rw (c.in_ok-write_rows.was, c.as_slice.ensures) at c.write_rows.ensures) (rw c.as_slice-2.ensures at c.write_steps.ensures)
