use Rattle.ps_runs.proofs.Certified as certified
use Rattle.ps_runs.proofs.Priced as priced
use Rattle.ps_runs.proofs.run_laws.gains.Goals as goal

pub returns : goal.returns
returns c = record { values = record { value = certified.value_of_gain; most = certified.most_of_gains }; pricings = record { goal = priced.same_goal; greatest = priced.priced_greatest; cut = priced.priced_cut; dual = priced.dual_ends } }
