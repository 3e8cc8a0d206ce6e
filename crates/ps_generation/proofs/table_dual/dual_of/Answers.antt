use Rattle.std.proofs.Common.{◌≡◌, ◌≤◌, ◌^◌, ℤ, pos, unsigned_abs, List, All, get_or, ◌∙◌, arith, sym, ap, subst}
use Rattle.std.proofs.lemmas.List.Elements.{All-from_get_or}
use Rattle.ps_claims.specs.Certificates.{IsMultiplier}
use Rattle.ps_runs.specs.Certificates.{head_of}
use Rattle.ps_generation.specs.Multiples.{AreScaled}
use Rattle.ps_generation.specs.Duals.{AreSigned, row_numbers}
use Rattle.ps_generation.proofs.Signed.{is_dual, count_rows}
use Rattle.ps_generation.proofs.Weighing.{read_back}
use Rattle.ps_generation.proofs.table_dual.dual_of.Goals as goal

pub returns-clause-value : goal.returns-clause-value
returns-clause-value c =
    let scaled = c.in_ok-scaled.scaled in
    let is : AreScaled c.args.table.now c.args.costs.now scaled = c.in_ok-scaled.ensures.value in
    let e : c.as_slice-numbers.result.now ≡ scaled.numbers = c.as_slice-numbers.ensures in
    let small : unsigned_abs (get_or c.as_slice-numbers.result.now 0 (pos 0)) ≤ 2 ^ 90 =
    subst (λ (xs : List ℤ). unsigned_abs (get_or xs 0 (pos 0)) ≤ 2 ^ 90) (sym e) (is.all_small 0 (omega (arith, c.requires.rows))) in
    let head : c.head_of.result ≡ head_of c.args.kind (get_or scaled.numbers 0 (pos 0)) =
    c.head_of.ensures.value ∙ ap (head_of c.args.kind) (read_back (get_or c.as_slice-numbers.result.now 0 (pos 0)) small ∙ ap (λ (xs : List ℤ). get_or xs 0 (pos 0)) e) in
    let rows : AreSigned c.args.rows.now (row_numbers scaled.numbers) c.in_ok-bound_rows.field-0 =
    subst (λ (xs : List ℤ). AreSigned c.args.rows.now (row_numbers xs) c.in_ok-bound_rows.field-0) e c.in_ok-bound_rows.ensures.rows in
    is_dual c.args.kind c.args.rows.now c.args.table.now c.args.costs.now scaled _ is c.requires.rows
    (read_back c.top_of.result c.top_of.ensures.small ∙ c.top_of.ensures.value) (read_back c.head_of.result c.head_of.ensures.small ∙ head) rows

pub returns-clause-count : goal.returns-clause-count
returns-clause-count c =
    count_rows c.args.rows.now (row_numbers c.as_slice-numbers.result.now) c.in_ok-bound_rows.field-0 c.in_ok-bound_rows.ensures.rows

pub bound_rows-requires-clause-small : goal.bound_rows-requires-clause-small
bound_rows-requires-clause-small c =
    let scaled = c.in_ok-scaled.scaled in
    let is : AreScaled c.args.table.now c.args.costs.now scaled = c.in_ok-scaled.ensures.value in
    subst (All IsMultiplier) (sym c.as_slice-numbers.ensures)
    (All-from_get_or IsMultiplier scaled.numbers (pos 0) (λ i h. is.all_small i (omega (arith, h, is.count))))
