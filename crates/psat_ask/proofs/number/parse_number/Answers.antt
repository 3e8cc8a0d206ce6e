use Rattle.std.proofs.Common.{ap, ◌∙◌}
use Rattle.std.specs.Result.{result_ok}
use Rattle.std.proofs.lemmas.Fmt.{parse-decimal}
use Rattle.psat_ask.proofs.number.parse_number.Goals as goal

pub returns : goal.returns
returns c = λ n less e. c.ok.ensures.value ∙ ap result_ok (parse-decimal 64 n c.args.word.now c.parse.result less less e c.parse.ensures.value.0)
