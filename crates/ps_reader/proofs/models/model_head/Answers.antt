use Rattle.ps_reader.proofs.Only.{only_model_head}
use Rattle.ps_reader.proofs.models.model_head.Goals as goal

pub unreachable-requires : goal.unreachable-requires
unreachable-requires c = only_model_head c.in_ok-total.field-0 c.in_ok-total.ensures.fits c.in_default.not-ModelHead
