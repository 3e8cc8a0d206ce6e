use Rattle.ps_valid.proofs.ModelFaults.{judged_over}
use Rattle.ps_valid.proofs.Tables.{shape_of_worlds}
use Rattle.ps_valid.proofs.modelled.check_model_over.Goals as goal

pub evaluate-requires-clause-atoms : goal.evaluate-requires-clause-atoms
evaluate-requires-clause-atoms c = rw c.as_slice.ensures (λ k w lt. rw (shape_of_worlds _ c.args.model.now.worlds (c.has_wrong_shape.ensures.right c.if-has_wrong_shape.false) k w lt) c.formulas.ensures.atoms)

pub returns : goal.returns
returns c = record {
  judged = judged_over c.args.problem.now c.args.rows.now c.args.model.now c.first_against_over.result c.requires.limits (c.has_wrong_shape.ensures.right c.if-has_wrong_shape.false) c.first_against_over.ensures;
}
