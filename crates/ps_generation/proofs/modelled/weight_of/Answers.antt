use Rattle.std.proofs.Common.{rules, ◌≡◌, ◌<◌, ◌≤◌, ◌^◌, ℤ, pos, unsigned_abs, List, get_or, refl, sym, ap, ◌∙◌, subst}
use Rattle.ps_table.specs.Tableau.{IsTableau, rows_of}
use Rattle.ps_generation.specs.Models.{IsBasicIn}
use Rattle.ps_generation.proofs.Weighing.{weight_here, read_back}
use Rattle.ps_generation.proofs.modelled.weight_of.Goals as goal

pub returns-in-Some-clause-value : goal.returns-in-Some-clause-value
returns-in-Some-clause-value c =
    let t = c.args.table.now in
    let w = c.args.weights.now in
    let row = c.in-Some.row in
    let is : IsTableau t = search rules in
    let h : row < rows_of t = search rules in
    let b : IsBasicIn t c.args.number row = search rules in
    let e : c.as_slice.result.now ≡ w.rows = search rules in
    let same : get_or c.as_slice.result.now row (pos 0) ≡ get_or w.rows row (pos 0) = ap (λ (xs : List ℤ). get_or xs row (pos 0)) e in
    let small : unsigned_abs (get_or c.as_slice.result.now row (pos 0)) ≤ 2 ^ 90 = subst (λ (y : ℤ). unsigned_abs y ≤ 2 ^ 90) (sym same) (c.requires.weights.all_small row h) in
    read_back (get_or c.as_slice.result.now row (pos 0)) small ∙ same
    ∙ weight_here t w c.args.number row (get_or w.rows row (pos 0)) is c.requires.apart c.requires.weights h b refl

pub returns-in-Some-clause-small : goal.returns-in-Some-clause-small
returns-in-Some-clause-small c =
    let t = c.args.table.now in
    let w = c.args.weights.now in
    let row = c.in-Some.row in
    let h : row < rows_of t = search rules in
    let e : c.as_slice.result.now ≡ w.rows = search rules in
    let same : get_or c.as_slice.result.now row (pos 0) ≡ get_or w.rows row (pos 0) = ap (λ (xs : List ℤ). get_or xs row (pos 0)) e in
    let small : unsigned_abs (get_or c.as_slice.result.now row (pos 0)) ≤ 2 ^ 90 = subst (λ (y : ℤ). unsigned_abs y ≤ 2 ^ 90) (sym same) (c.requires.weights.all_small row h) in
    subst (λ (y : ℤ). unsigned_abs y ≤ 2 ^ 90) (sym (read_back (get_or c.as_slice.result.now row (pos 0)) small)) small
