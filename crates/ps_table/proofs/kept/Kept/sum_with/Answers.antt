use Rattle.std.proofs.Common.{IfSome, subst, sym, rules, FitsSigned, w8}
use Rattle.std.proofs.lemmas.Int.{to_z-of_z}
use Rattle.ps_whole.specs.Sums.{IsSumWith}
use Rattle.ps_whole.specs.Whole.{whole_at}
use Rattle.ps_table.proofs.KeptCells.{kept_is_whole, cell_is}
use Rattle.ps_table.proofs.kept.Kept.sum_with.Goals as goal

pub returns-in-Whole : goal.returns-in-Whole
returns-in-Whole c =
    let w = c.in-Whole.whole in
    let g = c.args.self.now in
    let i = c.args.row in
    let j = c.args.column in
    let h = kept_is_whole c.self.inside.rows c.self.inside.cells w g c.self.invariant c.in-Whole.is c.self.view_is in
    let f : FitsSigned w8 c.args.cost = search rules in
    let sum : IfSome c.sum_with.result (IsSumWith c.args.sum.now c.args.cost (whole_at w i j)) =
    subst (λ z. IfSome c.sum_with.result (IsSumWith c.args.sum.now z (whole_at w i j))) (to_z-of_z w8 c.args.cost f) c.sum_with.ensures.sum in
    record {
      sum = subst (λ x. IfSome c.sum_with.result (IsSumWith c.args.sum.now c.args.cost x)) (sym (cell_is w g h i j c.requires.row c.requires.column)) sum;
    }
