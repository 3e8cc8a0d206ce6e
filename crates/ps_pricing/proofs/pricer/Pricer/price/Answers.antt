use Rattle.std.proofs.Common.{rules, ◌≡◌, ◌∙◌, ℤ, pos, ◌-ℤ◌, to_z, of_z, ap, arith}
use Rattle.std.specs.Int.{w128}
use Rattle.std.proofs.lemmas.Int.{ints}
use Rattle.ps_pb.specs.Weights.{Weighted, constraint_of}
use Rattle.ps_problem.specs.Problems.{AreParts}
use Rattle.ps_runs.specs.Searches.{IsSpentSearch}
use Rattle.ps_maxsat.specs.Values.{IsPriced, goal_of}
use Rattle.ps_maxsat.specs.declared.pricing.Priced.TheVariants.{Best, Cut}
use Rattle.ps_pricing.proofs.Found.{best_found, cut_found, spent_found}
use Rattle.ps_pricing.proofs.pricer.Pricer.price.Goals as goal

pub returns-in_ok-goal-in-Spent-clause-pricing : goal.returns-in_ok-goal-in-Spent-clause-pricing
returns-in_ok-goal-in-Spent-clause-pricing c =
    let p = c.in_ok-wcnf.wcnf in
    let are : AreParts c.args.self.now.subject.parts = search rules in
    let h : IsSpentSearch p.hard (goal_of p (pos 1)) c.args.self.now.conflicts c.in_ok-priced.field-0.steps = search rules in
    let r : ℤ = to_z w128 (of_z w128 (to_z w128 (of_z w128 (pos 1)) -ℤ to_z w128 (of_z w128 p.base))) in
    let e : r ≡ pos 1 -ℤ p.base = omega (arith, ints, c.in_ok-wcnf.ensures.narrow) in
    let g : c.in_ok-goal-in-Spent.goal ≡ constraint_of p.soft (pos 1 -ℤ p.base) =
    c.in_ok-goal-in-Spent.ensures.value ∙ ap (λ (ts : Weighted). constraint_of ts r) c.as_slice.ensures ∙ ap (constraint_of p.soft) e in
    spent_found c.args.kind c.args.self.now c.args.dual p c.in_ok-wcnf.ensures.value are.nodes c.in_ok-goal-in-Spent.goal c.in_ok-priced.field-0.steps g h

pub returns-in_ok-world-in-Best-clause-pricing : goal.returns-in_ok-world-in-Best-clause-pricing
returns-in_ok-world-in-Best-clause-pricing c =
    let p = c.in_ok-wcnf.wcnf in
    let are : AreParts c.args.self.now.subject.parts = search rules in
    let h : IsPriced p c.args.self.now.conflicts (Best c.in-Best.assignment c.in-Best.value c.in-Best.searches) = search rules in
    best_found c.args.kind c.args.self.now c.args.dual p c.in_ok-wcnf.ensures.value are.nodes c.in-Best.assignment c.in-Best.value c.in_ok-world-in-Best.field-0
    are.atoms h.0 c.in_ok-world-in-Best.ensures.of c.in_ok-world-in-Best.ensures.length h.1 h.2

pub returns-in_ok-world-in-Cut-clause-pricing : goal.returns-in_ok-world-in-Cut-clause-pricing
returns-in_ok-world-in-Cut-clause-pricing c =
    let p = c.in_ok-wcnf.wcnf in
    let are : AreParts c.args.self.now.subject.parts = search rules in
    let h : IsPriced p c.args.self.now.conflicts (Cut c.in-Cut.assignment c.in-Cut.value c.in-Cut.goal c.in-Cut.searches) = search rules in
    let spent : IsSpentSearch p.hard (goal_of p c.in-Cut.goal) c.args.self.now.conflicts c.in_ok-priced.field-0.steps = search rules in
    cut_found c.args.kind c.args.self.now c.args.dual p c.in_ok-wcnf.ensures.value are.nodes c.in-Cut.assignment c.in-Cut.value c.in-Cut.goal c.in_ok-world-in-Cut.field-0
    c.in_ok-priced.field-0.steps are.atoms h.0 c.in_ok-world-in-Cut.ensures.of c.in_ok-world-in-Cut.ensures.length h.1 h.2.above spent
