use Rattle.std.proofs.Common.{◌≡◌, pos, negsuc, arith, ◌∙◌}
use Rattle.std.proofs.lemmas.Int.{ints}
use Rattle.ps_table.proofs.Columns.{cost_of_one, cost_of_zero, cost_of_minus_one}
use Rattle.ps_table.proofs.costs.cost_times.Goals as goal

pub returns-then-cost-eq1 : goal.returns-then-cost-eq1
returns-then-cost-eq1 c = let e : c.args.cost ≡ pos 1 = omega (arith, ints) in record { value = rw e (cost_of_one c.args.entry.now) }

pub returns-then-cost-eq0 : goal.returns-then-cost-eq0
returns-then-cost-eq0 c = let e : c.args.cost ≡ pos 0 = omega (arith, ints) in record { value = c.new.ensures.value ∙ rw e (cost_of_zero c.args.entry.now) }

pub returns-else-cost-eq0 : goal.returns-else-cost-eq0
returns-else-cost-eq0 c = let e : c.args.cost ≡ negsuc 0 = omega (arith, ints) in record { value = c.neg.ensures.value ∙ rw e (cost_of_minus_one c.args.entry.now) }
