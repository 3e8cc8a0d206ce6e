use Rattle.std.proofs.Common.{[], ◌∷◌, map, length}
use Rattle.ps_answer.specs.declared.item.LineItem.TheVariants as line
use Rattle.ps_answer.specs.Answers.{entry_item}
use Rattle.ps_report.proofs.Sequence.{items_then}
use Rattle.ps_report.proofs.parts.write_model.Goals as goal

pub returns : goal.returns
returns g c = items_then g.O.Sink _ _ _ _ (line.ModelHead c.args.model.now.total (length c.args.model.now.worlds) ∷ []) (map entry_item c.args.model.now.worlds) (rw (c.in_ok-write_model_head.was, c.len.ensures) at c.write_model_head.ensures) (rw c.as_slice.ensures at c.write_entries.ensures)
