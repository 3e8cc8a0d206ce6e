use Rattle.ps_frac.proofs.Ranges.{decides}
use Rattle.ps_frac.proofs.decimal.has_decimals.Goals as goal

pub returns-clause-value : goal.returns-clause-value
returns-clause-value c = decides _ _ c.is_in_range.ensures
