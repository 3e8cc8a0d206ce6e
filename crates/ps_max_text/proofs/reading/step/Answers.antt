use Rattle.ps_max_text.proofs.Passing.{only_step}
use Rattle.ps_max_text.proofs.reading.step.Goals as goal

pub unreachable-requires : goal.unreachable-requires
unreachable-requires c = only_step c.in_ok-step.field-0 c.in_ok-step.ensures.fits c.in_default.not-StepLine
