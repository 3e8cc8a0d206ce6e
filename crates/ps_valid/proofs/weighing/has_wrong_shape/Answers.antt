use Rattle.ps_valid.proofs.ProperEntries.{refuted}
use Rattle.ps_valid.proofs.ModelFaults.{right_shape, wrong_shape}
use Rattle.ps_valid.proofs.weighing.has_wrong_shape.Goals as goal

pub returns-clause-wrong : goal.returns-clause-wrong
returns-clause-wrong c = λ yes. rw (← c.atoms.ensures.atoms, ← c.as_slice.ensures) (wrong_shape c.atoms.result c.as_slice.result.now (c.have_wrong_shape.ensures.0 yes))

pub returns-clause-right : goal.returns-clause-right
returns-clause-right c = λ no. rw (← c.atoms.ensures.atoms, ← c.as_slice.ensures) (right_shape c.atoms.result c.as_slice.result.now (refuted c.have_wrong_shape.result no c.have_wrong_shape.ensures.1))
