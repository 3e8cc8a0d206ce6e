use Rattle.ps_log.proofs.Spelled.{plain-all}
use Rattle.ps_reader.proofs.numeral.size.Goals as goal

pub value-requires : goal.value-requires
value-requires c = plain-all c.args.word.now (c.is_plain.ensures.0 c.if-is_plain.true)
