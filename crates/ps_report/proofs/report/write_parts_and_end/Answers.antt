use Rattle.std.proofs.Common.{rules}
use Rattle.std.specs.Result.{IsErr}
use Rattle.std.proofs.Common.{[], ◌∷◌}
use Rattle.ps_answer.specs.declared.item.LineItem.TheVariants as line
use Rattle.ps_answer.specs.Answers.{part_items}
use Rattle.ps_report.proofs.Sequence.{items_then, items_stop, short_first}
use Rattle.ps_report.proofs.report.write_parts_and_end.Goals as goal

pub returns : goal.returns
returns g c = items_then g.O.Sink _ _ _ _ (part_items 1 c.args.parts.now) (line.End ∷ []) (rw c.in_ok-write_parts.was at c.write_parts.ensures) c.write_end.ensures

pub write_parts-requires-clause-short : goal.write_parts-requires-clause-short
write_parts-requires-clause-short g c = short_first (part_items 1 c.args.parts.now) (line.End ∷ []) c.requires.short

pub returns-in_err-write_parts : goal.returns-in_err-write_parts
returns-in_err-write_parts g c =
    let failed : IsErr c.from_residual.result = search rules in
    items_stop g.O.Sink c.args.lines.now c.write_parts.new.lines _ c.from_residual.result (part_items 1 c.args.parts.now) (line.End ∷ []) (rw c.in_err-write_parts.was at c.write_parts.ensures) failed
