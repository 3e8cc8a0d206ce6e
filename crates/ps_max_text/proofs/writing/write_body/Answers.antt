use Rattle.std.proofs.Common.{rules, pos, [], ◌∷◌, length}
use Rattle.std.specs.Prelude.{codes}
use Rattle.std.specs.Result.{IsErr}
use Rattle.ps_log.specs.Texts.{with_numbers}
use Rattle.ps_max_text.specs.Texts.{number_line, values_line, log_lines, spent}
use Rattle.ps_max_text.proofs.Sequence.{lines_then, lines_stop}
use Rattle.ps_max_text.proofs.writing.write_body.Goals as goal

pub returns-in_ok-write_cost-in-Optimum : goal.returns-in_ok-write_cost-in-Optimum
returns-in_ok-write_cost-in-Optimum g c =
    rw c.in-Optimum.is
    (lines_then g.O.Sink _ _ _ _ (number_line (codes "optimum") c.in-Optimum.cost ∷ []) (values_line c.in-Optimum.assignment ∷ log_lines c.in-Optimum.steps)
    (rw c.in_ok-write_cost-in-Optimum.was at c.write_cost.ensures) (rw c.as_slice.ensures at c.write_found.ensures))

pub returns-in_err-write_cost-in-Optimum : goal.returns-in_err-write_cost-in-Optimum
returns-in_err-write_cost-in-Optimum g c =
    let failed : IsErr c.from_residual.result = search rules in
    rw c.in-Optimum.is
    (lines_stop g.O.Sink c.args.lines.now c.write_cost.new.lines _ c.from_residual.result (number_line (codes "optimum") c.in-Optimum.cost ∷ []) (values_line c.in-Optimum.assignment ∷ log_lines c.in-Optimum.steps)
    (rw c.in_err-write_cost-in-Optimum.was at c.write_cost.ensures) failed)

pub returns-in_ok-write_word-in-Unsatisfiable : goal.returns-in_ok-write_word-in-Unsatisfiable
returns-in_ok-write_word-in-Unsatisfiable g c =
    rw c.in-Unsatisfiable.is
    (lines_then g.O.Sink _ _ _ _ (codes "unsatisfiable" ∷ []) (log_lines c.in-Unsatisfiable.steps)
    (rw c.in_ok-write_word-in-Unsatisfiable.was at c.write_word.ensures) (rw c.as_slice-in-Unsatisfiable.ensures at c.write_log.ensures))

pub returns-in_err-write_word-in-Unsatisfiable : goal.returns-in_err-write_word-in-Unsatisfiable
returns-in_err-write_word-in-Unsatisfiable g c =
    let failed : IsErr c.from_residual-in_err-write_word-in-Unsatisfiable.result = search rules in
    rw c.in-Unsatisfiable.is
    (lines_stop g.O.Sink c.args.lines.now c.write_word.new.lines _ c.from_residual-in_err-write_word-in-Unsatisfiable.result (codes "unsatisfiable" ∷ []) (log_lines c.in-Unsatisfiable.steps)
    (rw c.in_err-write_word-in-Unsatisfiable.was at c.write_word.ensures) failed)

pub returns-in_ok-write_open-in-Open : goal.returns-in_ok-write_open-in-Open
returns-in_ok-write_open-in-Open g c =
    rw c.in-Open.is
    (lines_then g.O.Sink _ _ _ _ (with_numbers (codes "open conflicts") (pos c.in-Open.limit ∷ pos (length c.in-Open.steps) ∷ []) ∷ []) (spent c.in-Open.goal c.in-Open.steps c.in-Open.best)
    (rw (c.in_ok-write_open-in-Open.was, c.len.ensures) at c.write_open.ensures) (rw c.as_slice-in-Open.ensures at c.write_spent.ensures))

pub returns-in_err-write_open-in-Open : goal.returns-in_err-write_open-in-Open
returns-in_err-write_open-in-Open g c =
    let failed : IsErr c.from_residual-in_err-write_open-in-Open.result = search rules in
    rw c.in-Open.is
    (lines_stop g.O.Sink c.args.lines.now c.write_open.new.lines _ c.from_residual-in_err-write_open-in-Open.result (with_numbers (codes "open conflicts") (pos c.in-Open.limit ∷ pos (length c.in-Open.steps) ∷ []) ∷ []) (spent c.in-Open.goal c.in-Open.steps c.in-Open.best)
    (rw (c.in_err-write_open-in-Open.was, c.len.ensures) at c.write_open.ensures) failed)
