use Rattle.std.proofs.Common.{rules, [], ◌∷◌}
use Rattle.std.specs.Prelude.{codes}
use Rattle.std.specs.Result.{IsErr}
use Rattle.ps_max_text.specs.Texts.{number_line, values_line}
use Rattle.ps_max_text.proofs.Sequence.{lines_then, lines_stop}
use Rattle.ps_max_text.proofs.writing.write_costed.Goals as goal

pub returns : goal.returns
returns g c =
    lines_then g.O.Sink _ _ _ _ (number_line (codes "best") c.args.best.now.0 ∷ []) (values_line c.args.best.now.1 ∷ []) (rw c.in_ok-write_cost.was at c.write_cost.ensures) c.write_values.ensures

pub returns-in_err-write_cost : goal.returns-in_err-write_cost
returns-in_err-write_cost g c =
    let failed : IsErr c.from_residual.result = search rules in
    lines_stop g.O.Sink c.args.lines.now c.write_cost.new.lines _ c.from_residual.result (number_line (codes "best") c.args.best.now.0 ∷ []) (values_line c.args.best.now.1 ∷ [])
    (rw c.in_err-write_cost.was at c.write_cost.ensures) failed
