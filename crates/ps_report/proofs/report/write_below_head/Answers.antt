use Rattle.std.proofs.Common.{rules}
use Rattle.std.specs.Result.{IsErr}
use Rattle.ps_answer.specs.Answers.{verdict_items}
use Rattle.ps_report.specs.Reports.{below_verdict}
use Rattle.ps_report.proofs.Sequence.{items_then, items_stop, short_first, short_last}
use Rattle.ps_report.proofs.report.write_below_head.Goals as goal

pub returns : goal.returns
returns g c = items_then g.O.Sink _ _ _ _ (verdict_items c.args.answer.now.verdict) (below_verdict c.args.answer.now) (rw c.in_ok-write_verdict.was at c.write_verdict.ensures) c.write_below_verdict.ensures

pub write_verdict-requires-clause-short : goal.write_verdict-requires-clause-short
write_verdict-requires-clause-short g c = short_first (verdict_items c.args.answer.now.verdict) (below_verdict c.args.answer.now) c.requires.short

pub write_below_verdict-requires-clause-short : goal.write_below_verdict-requires-clause-short
write_below_verdict-requires-clause-short g c = short_last (verdict_items c.args.answer.now.verdict) (below_verdict c.args.answer.now) c.requires.short

pub returns-in_err-write_verdict : goal.returns-in_err-write_verdict
returns-in_err-write_verdict g c =
    let failed : IsErr c.from_residual.result = search rules in
    items_stop g.O.Sink c.args.lines.now c.write_verdict.new.lines _ c.from_residual.result (verdict_items c.args.answer.now.verdict) (below_verdict c.args.answer.now) (rw c.in_err-write_verdict.was at c.write_verdict.ensures) failed
