use Rattle.std.proofs.Common.{pos, arith, ◌≡◌, ◌*ℤ◌, IfSome, subst, sym, ap, ◌∙◌, rules, FitsSigned, to_z, of_z, w8, w64}
use Rattle.std.proofs.lemmas.Int.{ints, to_z-of_z}
use Rattle.ps_meaning.specs.Rational.{fraction, mul}
use Rattle.ps_whole.specs.Whole.{number_at, under_at, whole_at}
use Rattle.ps_whole.specs.Sums.{value_of, IsSumOf}
use Rattle.ps_whole.proofs.Added.{cost_entry, no_cost}
use Rattle.ps_whole.proofs.rows.Whole.sum_with.Goals as goal

pub returns-then-cost-eq0 : goal.returns-then-cost-eq0
returns-then-cost-eq0 c =
    let none : c.args.cost ≡ pos 0 = omega (arith, ints) in
    record { sum = no_cost c.args.sum.now c.args.cost (number_at c.args.self.now c.args.row c.args.column) (under_at c.args.self.now c.args.row) c.requires.small none }

pub returns : goal.returns
returns c =
    let w = c.args.self.now in
    let i = c.args.row in
    let j = c.args.column in
    let cost = c.args.cost in
    let n = c.number.result in
    let v = c.cost_times.result in
    let fc : FitsSigned w8 cost = search rules in
    let fn : FitsSigned w64 n = search rules in
    let fv : FitsSigned w64 v = search rules in
    let product : v ≡ cost *ℤ n = simp to_z-of_z at c.cost_times.ensures.value in
    let over : to_z w64 (of_z w64 v) ≡ cost *ℤ number_at w i j = to_z-of_z w64 v fv ∙ product ∙ ap (λ z. cost *ℤ z) c.number.ensures.value in
    let entry : fraction (to_z w64 (of_z w64 v)) c.under.result ≡ mul (fraction cost 1) (whole_at w i j) =
    (λ k. fraction (over k) (c.under.ensures.value k)) ∙ sym (cost_entry cost (number_at w i j) (under_at w i)) in
    record { sum = subst (λ x. IfSome c.plus.result (IsSumOf (value_of c.args.sum.now) x)) entry c.plus.ensures.sum }
