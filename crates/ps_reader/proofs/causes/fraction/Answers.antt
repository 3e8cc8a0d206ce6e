use Rattle.ps_reader.proofs.Fractions.{lowest_ratio}
use Rattle.ps_reader.proofs.causes.fraction.Goals as goal

pub returns : goal.returns
returns c = lowest_ratio c.args.ratio.now c.fraction_of.result c.requires.reduced c.requires.within c.fraction_of.ensures
