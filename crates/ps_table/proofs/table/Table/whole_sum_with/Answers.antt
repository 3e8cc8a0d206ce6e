use Rattle.std.proofs.Common.{◌≡◌, ◌+◌, suc, IfSome, ap, sym, subst, ◌∙◌, arith, rules, FitsSigned, w8}
use Rattle.std.proofs.lemmas.Int.{to_z-of_z}
use Rattle.ps_meaning.specs.Rational.{fraction, mul}
use Rattle.ps_whole.specs.Sums.{value_of, IsSumOf, IsSumWith}
use Rattle.ps_table.specs.Tableau.{Tableau, entry_at, basic_at}
use Rattle.ps_table.specs.Pricing.{cost_number}
use Rattle.ps_table.specs.Grids.{cell_in, grid_of}
use Rattle.ps_table.proofs.TableEntries.{home_value}
use Rattle.ps_table.proofs.table.Table.whole_sum_with.Goals as goal

pub returns : goal.returns
returns c =
    let t = c.args.self.now in
    let g = c.self.inside.kept in
    let i = c.args.row in
    let one : 1 + c.args.home ≡ suc c.args.home = omega arith in
    let f : FitsSigned w8 c.basic_cost-cost.result = search rules in
    let entry : cell_in g i (1 + c.args.home) ≡ entry_at t i (suc c.args.home) =
    home_value t g i (suc c.args.home) (cell_in g i (1 + c.args.home)) (c.self.invariant.grid ∙ ap (λ (s : Tableau). grid_of s) c.self.view_is) (omega (arith, c.requires.home)) (ap (cell_in g i) one) in
    let cost : c.basic_cost-cost.result ≡ cost_number c.args.costs.now (basic_at t i) = c.basic_cost-cost.ensures.value in
    let sum : IfSome c.sum_with.result (IsSumWith c.args.sum.now c.basic_cost-cost.result (cell_in g i (1 + c.args.home))) =
    subst (λ z. IfSome c.sum_with.result (IsSumWith c.args.sum.now z (cell_in g i (1 + c.args.home)))) (to_z-of_z w8 c.basic_cost-cost.result f) c.sum_with.ensures.sum in
    record { sum = subst (λ x. IfSome c.sum_with.result (IsSumOf (value_of c.args.sum.now) x)) (λ z. mul (fraction (cost z) 1) (entry z)) sum }
