use Rattle.ps_commands.specs.Commands.{words_of}
use Rattle.ps_commands.proofs.CommandLaws.{solve_spelled, solve_unspelled}
use Rattle.ps_commands.proofs.command.parse_solve.Goals as goal

pub returns-in_err-settings : goal.returns-in_err-settings
returns-in_err-settings c = rw c.from_residual.ensures (solve_unspelled (words_of c.args.settings.now) c.in_err-settings.ensures)

pub returns : goal.returns
returns c =
    solve_spelled (words_of c.args.settings.now) c.in_ok-settings.settings c.limits.result c.is_enough.result c.in_ok-settings.ensures c.limits.ensures c.is_enough.ensures
