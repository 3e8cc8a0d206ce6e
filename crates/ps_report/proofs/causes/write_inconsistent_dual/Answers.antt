use Rattle.std.proofs.Common.{rules}
use Rattle.std.specs.Result.{IsErr}
use Rattle.std.proofs.Common.{[], ◌∷◌}
use Rattle.ps_answer.specs.declared.item.LineItem.TheVariants as line
use Rattle.ps_answer.specs.Answers.{dual_items}
use Rattle.ps_report.proofs.Sequence.{items_then, items_stop}
use Rattle.ps_report.proofs.causes.write_inconsistent_dual.Goals as goal

pub returns : goal.returns
returns g c = items_then g.O.Sink _ _ _ _ (line.Inconsistent ∷ []) (dual_items c.args.dual.now) (rw c.in_ok-write_inconsistent.was at c.write_inconsistent.ensures) c.write_dual.ensures

pub returns-in_err-write_inconsistent : goal.returns-in_err-write_inconsistent
returns-in_err-write_inconsistent g c =
    let failed : IsErr c.from_residual.result = search rules in
    items_stop g.O.Sink c.args.lines.now c.write_inconsistent.new.lines _ c.from_residual.result (line.Inconsistent ∷ []) (dual_items c.args.dual.now) (rw c.in_err-write_inconsistent.was at c.write_inconsistent.ensures) failed
