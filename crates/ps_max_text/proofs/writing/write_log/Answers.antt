use Rattle.std.proofs.Common.{rules, pos, [], ◌∷◌, map, length}
use Rattle.std.specs.Prelude.{codes}
use Rattle.std.specs.Result.{IsErr}
use Rattle.ps_log.specs.Texts.{step_line}
use Rattle.ps_max_text.specs.Texts.{number_line}
use Rattle.ps_max_text.proofs.Sequence.{lines_then, lines_stop}
use Rattle.ps_max_text.proofs.writing.write_log.Goals as goal

pub returns : goal.returns
returns g c =
    lines_then g.O.Sink _ _ _ _ (number_line (codes "log") (pos (length c.args.steps.now)) ∷ []) (map step_line c.args.steps.now)
    (rw c.in_ok-write_count.was at c.write_count.ensures) c.write_steps.ensures

pub returns-in_err-write_count : goal.returns-in_err-write_count
returns-in_err-write_count g c =
    let failed : IsErr c.from_residual.result = search rules in
    lines_stop g.O.Sink c.args.lines.now c.write_count.new.lines _ c.from_residual.result (number_line (codes "log") (pos (length c.args.steps.now)) ∷ []) (map step_line c.args.steps.now)
    (rw c.in_err-write_count.was at c.write_count.ensures) failed
