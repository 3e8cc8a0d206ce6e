use Rattle.std.proofs.Common.{rules, arith, ◌≡◌, ◌++◌, ◌∷◌, []}
use Rattle.ps_runs.proofs.Pools.{atoms_below, next_cost}
use Rattle.ps_runs.proofs.costs.world_costs.Goals as goal

pub cost_of-requires-clause-atoms : goal.cost_of-requires-clause-atoms
cost_of-requires-clause-atoms c =
    atoms_below c.args.formulas.now c.args.pool.now c.world_in.result.now c.loop-place.place c.requires.atoms (omega (arith, c.loop-place-test.true, c.len-place-end.ensures.value)) c.world_in.ensures

pub loop-place-preserved : goal.loop-place-preserved
loop-place-preserved c =
    let grown : c.push.new.self ≡ c.loop-place.costs ++ c.in_ok-cost_of.field-0 ∷ [] = search rules in
    next_cost c.args.phase c.args.formulas.now c.args.both c.args.pool.now c.world_in.result.now c.loop-place.place c.loop-place.costs c.push.new.self c.in_ok-cost_of.field-0
    c.loop-place.invariant (omega (arith, c.loop-place-test.true, c.len-place-end.ensures.value)) c.world_in.ensures c.in_ok-cost_of.ensures.value grown
