use Rattle.std.proofs.Common.{refl, length, ◌+◌}
use Rattle.ps_check.proofs.PartialLines.{next_feed}
use Rattle.ps_check.proofs.judge.next_line.Goals as goal

pub returns-clause-feed : goal.returns-clause-feed
returns-clause-feed c = next_feed c.args.bytes.now c.in_ok-line.line.now c.in_ok-line.rest.now (length c.in_ok-line.line.now + 1) c.in_ok-line.ensures.found.0 c.in_ok-line.ensures.found.1 refl
