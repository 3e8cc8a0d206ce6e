use Rattle.ps_frac.proofs.Rounding.{contain_law}
use Rattle.ps_frac.proofs.decimal_laws.decimals_contain_their_fraction.Goals as goal

pub returns : goal.returns
returns c = record { contain = contain_law }
