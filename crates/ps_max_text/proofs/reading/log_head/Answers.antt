use Rattle.ps_max_text.proofs.Passing.{only_log}
use Rattle.ps_max_text.proofs.reading.log_head.Goals as goal

pub unreachable-requires : goal.unreachable-requires
unreachable-requires c = only_log c.in_ok-count.field-0 c.in_ok-count.ensures.fits c.in_default.not-LogHead
