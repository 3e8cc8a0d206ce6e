use Rattle.std.proofs.Common.{rules}
use Rattle.std.specs.Result.{IsErr}
use Rattle.std.proofs.Common.{◌+◌, take}
use Rattle.ps_answer.specs.Answers.{part_items}
use Rattle.ps_report.specs.Reports.{numbered_items}
use Rattle.ps_report.proofs.Sequence.{items_then, items_stop}
use Rattle.ps_report.proofs.Numbered.{part_more, part_at, part_short}
use Rattle.ps_report.proofs.queries.write_parts.Goals as goal

pub write_part-requires-clause-short : goal.write_part-requires-clause-short
write_part-requires-clause-short g c = part_short c.args.parts.now c.loop-i.i c.index-parts-i.result c.index-parts-i.result c.loop-i-test.true c.index-parts-i.is c.requires.short

pub loop-i-preserved : goal.loop-i-preserved
loop-i-preserved g c =
    rw (part_more c.args.parts.now c.loop-i.i c.index-parts-i.result c.index-parts-i.result c.loop-i-test.true c.index-parts-i.is)
    (items_then g.O.Sink _ _ _ _ (part_items 1 (take c.loop-i.i c.args.parts.now)) (numbered_items (c.loop-i.i + 1) c.index-parts-i.result) c.loop-i.invariant
    (rw c.in_ok-write_part.was at c.write_part.ensures))

pub returns-in_err-write_part : goal.returns-in_err-write_part
returns-in_err-write_part g c =
    let failed : IsErr c.from_residual.result = search rules in
    rw (part_at c.args.parts.now c.loop-i.i c.index-parts-i.result c.index-parts-i.result c.loop-i-test.true c.index-parts-i.is)
    (items_stop g.O.Sink c.args.lines.now c.write_part.new.lines _ c.from_residual.result _ _
    (items_then g.O.Sink _ _ _ _ (part_items 1 (take c.loop-i.i c.args.parts.now)) (numbered_items (c.loop-i.i + 1) c.index-parts-i.result) c.loop-i.invariant
    (rw c.in_err-write_part.was at c.write_part.ensures)) failed)
