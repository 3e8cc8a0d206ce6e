use Rattle.ps_simplex.proofs.Combination.{combination_is, priced_improves, improves_back, resting_most}
use Rattle.ps_simplex.proofs.rule_laws.combinations.Goals as goal

pub returns : goal.returns
returns c = record { priced = record { value = combination_is; improves = priced_improves; back = improves_back; rest = resting_most } }
