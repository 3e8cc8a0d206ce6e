use Rattle.std.proofs.Common.{rules, ◌≡◌, ◌∙◌, Bool, List, length, sym, ap, subst}
use Rattle.ps_clause.specs.Forms.{Form}
use Rattle.ps_problem.specs.Problems.{AreParts}
use Rattle.ps_problem.specs.Rows.{rows_in}
use Rattle.ps_problem.proofs.BoundRows.{are-rows}
use Rattle.ps_runs.specs.Kept.{kept_of, kept_parts}
use Rattle.ps_runs.proofs.Kept.{parts-kept}
use Rattle.ps_pricing.proofs.Wishes.{nodes-inside}
use Rattle.ps_pricing.proofs.pricer.Pricer.new.Goals as goal

pub first_world-requires-clause-inside : goal.first_world-requires-clause-inside
first_world-requires-clause-inside c =
    let p = c.args.problem.now in
    let ss = kept_of c.args.kept.now p.sentences in
    let are : AreParts (kept_parts c.args.kept.now p) = parts-kept c.args.kept.now p c.rows-sound.ensures.parts in
    nodes-inside p.nodes (rows_in ss) c.as_slice.result.now c.in_ok-form.form.variables (c.as_slice.ensures ∙ c.in_ok-rows.ensures)
    (ap (λ (f : Form). f.variables) c.in_ok-form.ensures ∙ ap length c.formulas.ensures.nodes) (are-rows p.nodes ss are.bounds)

pub invariant_of-result : goal.invariant_of-result
invariant_of-result c =
    let p = c.args.problem.now in
    let same : c.from_vec.result ≡ c.args.kept.now = search rules in (
      search rules,
      c.requires.conflicts,
      search rules,
      search rules,
      subst (λ (ks : List Bool). AreParts (kept_parts ks p)) (sym same) (parts-kept c.args.kept.now p c.rows-sound.ensures.parts),
    )
