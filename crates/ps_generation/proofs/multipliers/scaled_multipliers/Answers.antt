use Rattle.std.proofs.Common.{rules, ◌≡◌}
use Rattle.ps_table.specs.Tableau.{IsTableau}
use Rattle.ps_generation.specs.Rows.{AreMultipliers}
use Rattle.ps_generation.proofs.Listed.{few_multipliers, scaled_all}
use Rattle.ps_generation.proofs.Narrow.{dual_narrow}
use Rattle.ps_generation.proofs.multipliers.scaled_multipliers.Goals as goal

pub multiple_of-requires : goal.multiple_of-requires
multiple_of-requires c =
    let m : AreMultipliers c.args.table.now c.args.costs.now c.as_slice.result.now = search rules in
    let is : IsTableau c.args.table.now = search rules in
    few_multipliers c.args.table.now c.args.costs.now c.as_slice.result.now m is

pub products-requires-clause-few : goal.products-requires-clause-few
products-requires-clause-few c =
    let m : AreMultipliers c.args.table.now c.args.costs.now c.as_slice-2.result.now = search rules in
    let is : IsTableau c.args.table.now = search rules in
    few_multipliers c.args.table.now c.args.costs.now c.as_slice-2.result.now m is

pub returns-clause-value : goal.returns-clause-value
returns-clause-value c =
    let m : AreMultipliers c.args.table.now c.args.costs.now c.in_ok-numbers.numbers = search rules in
    let e : c.as_slice.result.now ≡ c.in_ok-numbers.numbers = search rules in
    let f : c.as_slice-2.result.now ≡ c.in_ok-numbers.numbers = search rules in
    scaled_all c.args.table.now c.args.costs.now c.in_ok-numbers.numbers c.in_ok-multiple.multiple c.in_ok-products.products m
    (rw e at c.in_ok-multiple.ensures.value) c.in_ok-multiple.ensures.small (rw f at c.in_ok-products.ensures.value)

pub returns-clause-narrow : goal.returns-clause-narrow
returns-clause-narrow c =
    let m : AreMultipliers c.args.table.now c.args.costs.now c.in_ok-numbers.numbers = search rules in
    let e : c.as_slice.result.now ≡ c.in_ok-numbers.numbers = search rules in
    let f : c.as_slice-2.result.now ≡ c.in_ok-numbers.numbers = search rules in
    dual_narrow c.args.table.now c.args.costs.now _ c.in_ok-numbers.ensures.narrow
    (scaled_all c.args.table.now c.args.costs.now c.in_ok-numbers.numbers c.in_ok-multiple.multiple c.in_ok-products.products m
    (rw e at c.in_ok-multiple.ensures.value) c.in_ok-multiple.ensures.small (rw f at c.in_ok-products.ensures.value))
