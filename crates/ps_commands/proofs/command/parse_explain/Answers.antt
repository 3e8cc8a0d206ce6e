use Rattle.ps_commands.specs.Commands.{words_of}
use Rattle.ps_commands.proofs.CommandLaws.{explain_spelled, explain_unspelled}
use Rattle.ps_commands.proofs.command.parse_explain.Goals as goal

pub returns-in_err-settings : goal.returns-in_err-settings
returns-in_err-settings c = rw c.from_residual.ensures (explain_unspelled (words_of c.args.settings.now) c.in_err-settings.ensures)

pub returns : goal.returns
returns c =
    explain_spelled (words_of c.args.settings.now) c.in_ok-settings.settings c.limits.result c.is_enough.result c.in_ok-settings.ensures c.limits.ensures c.is_enough.ensures
