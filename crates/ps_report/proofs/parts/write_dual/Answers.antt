use Rattle.std.proofs.Common.{[], ◌∷◌, map, length}
use Rattle.ps_answer.specs.declared.item.LineItem.TheVariants as line
use Rattle.ps_report.proofs.Sequence.{items_then}
use Rattle.ps_report.proofs.parts.write_dual.Goals as goal

pub returns : goal.returns
returns g c = items_then g.O.Sink _ _ _ _ (line.DualHead c.args.dual.now.top c.args.dual.now.head (length c.args.dual.now.steps) ∷ []) (line.Rows c.args.dual.now.rows ∷ map line.StepLine c.args.dual.now.steps) (rw (c.in_ok-write_dual_head.was, c.len.ensures) at c.write_dual_head.ensures) c.write_rows_and_steps.ensures
