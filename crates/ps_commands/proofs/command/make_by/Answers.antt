use Rattle.std.proofs.Common.{sym, ◌∙◌}
use Rattle.std.specs.Fmt.{decimal}
use Rattle.ps_commands.specs.Commands.{words_of}
use Rattle.ps_commands.proofs.MakeWords.{make_enough, make_spelled, make_unset}
use Rattle.ps_commands.proofs.command.make_by.Goals as goal

pub returns-in_err-settings : goal.returns-in_err-settings
returns-in_err-settings c = rw c.from_residual.ensures (make_unset (decimal c.args.links) (words_of c.args.settings.now) c.in_err-settings.ensures)

pub returns-then-is_enough : goal.returns-then-is_enough
returns-then-is_enough c =
    make_enough (decimal c.args.links) (words_of c.args.settings.now) c.in_ok-settings.settings c.in_ok-settings.ensures (sym c.is_enough.ensures ∙ c.if-is_enough.true)

pub returns : goal.returns
returns c =
    make_spelled (words_of c.args.settings.now) c.args.links c.in_ok-settings.settings c.limits.result c.requires.some c.requires.few c.in_ok-settings.ensures (sym c.is_enough.ensures ∙ c.if-is_enough.false)
    c.limits.ensures
