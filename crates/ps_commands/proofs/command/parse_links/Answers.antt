use Rattle.std.proofs.Common.{arith}
use Rattle.ps_commands.proofs.CommandLaws.{no_links}
use Rattle.ps_commands.proofs.command.parse_links.Goals as goal

pub returns-then-links-eq0 : goal.returns-then-links-eq0
returns-then-links-eq0 c = no_links _ c.in_ok-links.links c.in_ok-links.ensures.spelled (omega (arith, c.if-links-eq0.true))
