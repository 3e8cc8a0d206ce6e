use Rattle.ps_reader.proofs.Only.{only_dual_head}
use Rattle.ps_reader.proofs.models.dual_head.Goals as goal

pub unreachable-requires : goal.unreachable-requires
unreachable-requires c = only_dual_head c.in_ok-top.field-0 c.in_ok-top.ensures.fits c.in_default.not-DualHead
