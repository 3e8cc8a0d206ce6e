use Rattle.ps_log.proofs.Spelled.{decimal-spells, decimal_of}
use Rattle.ps_log.proofs.laws.decimals_are_spelled.Goals as goal

pub returns-clause-spelled : goal.returns-clause-spelled
returns-clause-spelled c = decimal-spells

pub returns-clause-only : goal.returns-clause-only
returns-clause-only c = decimal_of
