use Rattle.ps_log.proofs.Spelled.{number-minus, number-plain}
use Rattle.ps_log.proofs.numeral.number.Goals as goal

pub returns-in-Some : goal.returns-in-Some
returns-in-Some c = number-minus c.args.word.now c.in-Some.digits.now c.negative.result c.in-Some.ensures.found c.negative.ensures

pub returns-in-None : goal.returns-in-None
returns-in-None c = number-plain c.args.word.now c.positive.result c.in-None.ensures.none c.positive.ensures
