use Rattle.ps_reader.proofs.LineFractions.{is_lowest}
use Rattle.ps_reader.proofs.ratio.is_lowest.Goals as goal

pub returns : goal.returns
returns c = is_lowest c.args.over.now c.args.under.now c.fraction_of-fraction.result c.has_numbers.result c.requires.positive c.fraction_of-fraction.ensures c.has_numbers.ensures
