use Rattle.ps_reader.proofs.Only.{only_step}
use Rattle.ps_reader.proofs.models.step.Goals as goal

pub unreachable-requires : goal.unreachable-requires
unreachable-requires c = only_step c.in_ok-step.field-0 c.in_ok-step.ensures.fits c.in_default.not-StepLine
