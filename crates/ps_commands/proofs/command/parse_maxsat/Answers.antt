use Rattle.ps_commands.specs.Commands.{words_of}
use Rattle.ps_commands.proofs.CommandLaws.{maxsat_spelled, maxsat_unspelled}
use Rattle.ps_commands.proofs.command.parse_maxsat.Goals as goal

pub returns-in_err-conflicts : goal.returns-in_err-conflicts
returns-in_err-conflicts c = rw c.from_residual.ensures (maxsat_unspelled (words_of c.args.settings.now) c.in_err-conflicts.ensures)

pub returns : goal.returns
returns c = maxsat_spelled (words_of c.args.settings.now) c.in_ok-conflicts.conflicts c.in_ok-conflicts.ensures
