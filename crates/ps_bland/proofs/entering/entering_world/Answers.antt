use Rattle.std.proofs.Common.{◌≡◌, ◌+◌, subst, arith, rules}
use Rattle.ps_table.specs.declared.col.Col.{Col}
use Rattle.ps_table.specs.declared.col.Col.TheVariants as col
use Rattle.ps_bland.specs.Rounds.{ImprovesIn, ArePricesNarrowTo}
use Rattle.ps_bland.proofs.Due.{world_first, all_narrow, prices_next}
use Rattle.ps_bland.proofs.entering.entering_world.Goals as goal

pub returns-then-branch-clause-narrow : goal.returns-then-branch-clause-narrow
returns-then-branch-clause-narrow c =
    let t = c.args.table.now in
    let costs = c.args.costs.now in
    let k = c.loop-before.before in
    let improves : ImprovesIn costs t (col.World (k + 1)) = search rules in
    world_first costs t (k + 1) improves c.requires.multipliers (prices_next costs t k c.loop-before.invariant.narrow c.in_ok-world_improves.ensures.narrow)

pub returns-clause-narrow : goal.returns-clause-narrow
returns-clause-narrow c =
    let t = c.args.table.now in
    let costs = c.args.costs.now in
    let all : c.loop-before.before ≡ t.worlds = omega (arith, c.loop-before-test.false, c.loop-before.auto, c.worlds-before-end.ensures.value) in
    all_narrow costs t c.requires.multipliers (subst (ArePricesNarrowTo costs t) all c.loop-before.invariant.narrow)
