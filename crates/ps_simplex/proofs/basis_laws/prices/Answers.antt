use Rattle.ps_simplex.proofs.Pricing.{right_is_home, value_is_multiplier, carried_is_priced}
use Rattle.ps_simplex.proofs.basis_laws.prices.Goals as goal

pub returns : goal.returns
returns c = record { priced = record { right_side = right_is_home; value = value_is_multiplier; columns = carried_is_priced } }
