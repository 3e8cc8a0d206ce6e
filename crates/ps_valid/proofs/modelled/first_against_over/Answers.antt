use Rattle.ps_valid.proofs.ProperEntries.{refuted}
use Rattle.ps_valid.proofs.ModelFaults.{missed_over}
use Rattle.ps_valid.proofs.modelled.first_against_over.Goals as goal

pub returns-in-Some-missed_row : goal.returns-in-Some-missed_row
returns-in-Some-missed_row c = missed_over c.args.problem.now c.args.rows.now c.args.model.now c.in-Some-missed_row.bound (refuted c.has_too_many.result c.if-has_too_many.false c.has_too_many.ensures.1)
    (rw c.as_slice.ensures at c.in_default.ensures) (c.has_wrong_total.ensures.right c.if-has_wrong_total.false) c.in-Some-missed_row.ensures
