use Rattle.ps_meaning.proofs.Field.{rational_laws, mul-inverse, one_not_zero}
use Rattle.ps_meaning.proofs.laws.field_laws.Goals as goal

pub returns : goal.returns
returns c = record { ring = rational_laws; inverses = mul-inverse; apart = one_not_zero }
