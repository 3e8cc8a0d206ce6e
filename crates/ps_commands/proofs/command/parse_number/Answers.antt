use Rattle.std.proofs.Common.{ap, ◌∙◌}
use Rattle.std.specs.Result.{result_ok}
use Rattle.std.proofs.lemmas.Fmt.{parse-decimal}
use Rattle.ps_commands.proofs.command.parse_number.Goals as goal

pub returns : goal.returns
returns c = λ n less e. c.ok.ensures.value ∙ ap result_ok (parse-decimal 64 n c.as_str.result.now c.parse.result less less (c.as_str.ensures.value ∙ e) c.parse.ensures.value.0)
