use Rattle.std.proofs.Common.{rules}
use Rattle.std.specs.Result.{IsErr}
use Rattle.std.proofs.Common.{[], ◌∷◌}
use Rattle.ps_answer.specs.declared.item.LineItem.TheVariants as line
use Rattle.ps_report.specs.Parts.{AreShort}
use Rattle.ps_report.specs.Reports.{below_head}
use Rattle.ps_report.proofs.Numbered.{answer_is}
use Rattle.ps_report.proofs.Sequence.{items_then, items_stop}
use Rattle.ps_report.proofs.report.write_report.Goals as goal

pub write_below_head-requires-clause-short : goal.write_below_head-requires-clause-short
write_below_head-requires-clause-short g c = let all : AreShort (line.Report ∷ below_head c.args.answer.now) = rw answer_is at c.requires.short in all.1

pub returns : goal.returns
returns g c =
    rw (answer_is c.args.answer.now)
    (items_then g.O.Sink _ _ _ _ (line.Report ∷ []) (below_head c.args.answer.now) (rw c.in_ok-write_report_head.was at c.write_report_head.ensures) c.write_below_head.ensures)

pub returns-in_err-write_report_head : goal.returns-in_err-write_report_head
returns-in_err-write_report_head g c =
    let failed : IsErr c.from_residual.result = search rules in
    rw (answer_is c.args.answer.now)
    (items_stop g.O.Sink c.args.lines.now c.write_report_head.new.lines _ c.from_residual.result (line.Report ∷ []) (below_head c.args.answer.now) (rw c.in_err-write_report_head.was at c.write_report_head.ensures) failed)
