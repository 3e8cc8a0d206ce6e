use Rattle.std.proofs.Common.{rules}
use Rattle.std.specs.Result.{IsErr}
use Rattle.ps_answer.specs.Answers.{entry_item}
use Rattle.ps_report.proofs.Sequence.{short_at, items_fault}
use Rattle.ps_report.proofs.parts.write_entries.Goals as goal

pub write_entry-requires-clause-short : goal.write_entry-requires-clause-short
write_entry-requires-clause-short g c = short_at entry_item c.args.worlds.now c.loop-entry.entry-index c.entry-item.result c.entry-item.result c.loop-entry-test.true c.entry-item.is c.requires.short

pub returns-in_err-write_entry : goal.returns-in_err-write_entry
returns-in_err-write_entry g c =
    let failed : IsErr c.from_residual.result = search rules in
    items_fault g.O.Sink entry_item c.args.worlds.now c.loop-entry.entry-index c.entry-item.result c.entry-item.result c.loop-entry-test.true c.entry-item.is c.args.lines.now c.loop-entry.lines c.write_entry.new.lines c.loop-entry.invariant _ c.from_residual.result
    (rw c.in_err-write_entry.was at c.write_entry.ensures) failed
