use Rattle.ps_commands.specs.Commands.{words_of}
use Rattle.ps_commands.proofs.CommandLaws.{check_maxsat_spelled, check_maxsat_unspelled}
use Rattle.ps_commands.proofs.command.parse_check_maxsat.Goals as goal

pub returns-in_err-bytes : goal.returns-in_err-bytes
returns-in_err-bytes c = rw c.from_residual.ensures (check_maxsat_unspelled (words_of c.args.settings.now) c.in_err-bytes.ensures)

pub returns : goal.returns
returns c = check_maxsat_spelled (words_of c.args.settings.now) c.in_ok-bytes.bytes c.in_ok-bytes.ensures
