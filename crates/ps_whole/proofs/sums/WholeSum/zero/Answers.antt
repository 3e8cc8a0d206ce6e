use Rattle.ps_meaning.proofs.Field.{zero_is_fraction}
use Rattle.ps_whole.proofs.sums.WholeSum.zero.Goals as goal

pub returns-clause-value : goal.returns-clause-value
returns-clause-value c = zero_is_fraction
