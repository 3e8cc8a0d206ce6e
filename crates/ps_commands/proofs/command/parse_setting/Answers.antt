use Rattle.std.proofs.Common.{◌∙◌, string_bytes}
use Rattle.ps_commands.proofs.Settings.{number_found}
use Rattle.ps_commands.proofs.command.parse_setting.Goals as goal

pub returns-then-is : goal.returns-then-is
returns-then-is c =
    number_found (string_bytes c.args.word.now) (string_bytes c.args.digits.now) c.args.limit c.most.result c.number.result (c.is.ensures.0 c.if-is.true ∙ c.word.ensures) c.most.ensures
    c.number.ensures.spelled c.number.ensures.within c.number.ensures.none
