use Rattle.std.proofs.Common.{rules, [], ◌∷◌}
use Rattle.std.specs.Result.{IsErr}
use Rattle.ps_max_text.specs.Texts.{log_lines, values_line}
use Rattle.ps_max_text.proofs.Sequence.{lines_then, lines_stop}
use Rattle.ps_max_text.proofs.writing.write_found.Goals as goal

pub returns : goal.returns
returns g c = lines_then g.O.Sink _ _ _ _ (values_line c.args.assignment.now ∷ []) (log_lines c.args.steps.now) (rw c.in_ok-write_values.was at c.write_values.ensures) c.write_log.ensures

pub returns-in_err-write_values : goal.returns-in_err-write_values
returns-in_err-write_values g c =
    let failed : IsErr c.from_residual.result = search rules in
    lines_stop g.O.Sink c.args.lines.now c.write_values.new.lines _ c.from_residual.result (values_line c.args.assignment.now ∷ []) (log_lines c.args.steps.now) (rw c.in_err-write_values.was at c.write_values.ensures) failed
