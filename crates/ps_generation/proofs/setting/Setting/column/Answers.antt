use Rattle.std.proofs.Common.{rules, ◌≡◌, w8, Bool, List, length, All, sym, subst, ap, ◌∙◌, FitsSigned}
use Rattle.std.proofs.lemmas.Int.{to_z-of_z}
use Rattle.ps_problem.specs.Problems.{AreParts}
use Rattle.ps_problem.specs.Rows.{rows_in}
use Rattle.ps_problem.proofs.BoundRows.{are-rows}
use Rattle.ps_formula.specs.Nodes.{truths}
use Rattle.ps_formula.proofs.Trees.{length-truths}
use Rattle.ps_runs.specs.Columns.{HasValues, column_over, cost_over}
use Rattle.ps_runs.specs.Subjects.{given_in, both_in}
use Rattle.ps_runs.specs.Rows.{phase_of}
use Rattle.ps_runs.proofs.NodeColumns.{column_is, cost_is}
use Rattle.ps_generation.proofs.RowValues.{have_values}
use Rattle.ps_generation.proofs.setting.Setting.column.Goals as goal

pub column_of-requires-clause-rows : goal.column_of-requires-clause-rows
column_of-requires-clause-rows c =
    let s = c.args.self.now.subject in
    let are : AreParts s.parts = search rules in
    let nodes : c.formulas.result.now ≡ s.parts.nodes = search rules in
    let rows : c.rows-rows.result.now ≡ rows_in s.parts.sentences = search rules in
    let first : c.deref.result.now ≡ truths s.parts.nodes c.args.world.now =
    c.deref.ensures.value ∙ c.in_ok-values.ensures.truths ∙ ap (λ ns. truths ns c.args.world.now) nodes in
    let long : length c.deref.result.now ≡ length s.parts.nodes = ap (λ (vs : List Bool). length vs) first ∙ length-truths s.parts.nodes c.args.world.now in
    subst (All (HasValues c.deref.result.now)) (sym rows)
    (have_values s.parts.nodes (rows_in s.parts.sentences) c.deref.result.now long (are-rows s.parts.nodes s.parts.sentences are.bounds))

pub returns : goal.returns
returns c =
    let s = c.args.self.now.subject in
    let nodes : c.formulas.result.now ≡ s.parts.nodes = search rules in
    let rows : c.rows-rows.result.now ≡ rows_in s.parts.sentences = search rules in
    let given : c.evidence.result ≡ given_in s.query = search rules in
    let both : c.both.result ≡ both_in s.query = search rules in
    let first : c.deref.result.now ≡ truths s.parts.nodes c.args.world.now =
    c.deref.ensures.value ∙ c.in_ok-values.ensures.truths ∙ ap (λ ns. truths ns c.args.world.now) nodes in
    let second : c.deref-2.result.now ≡ truths s.parts.nodes c.args.world.now =
    c.deref-2.ensures.value ∙ c.in_ok-values.ensures.truths ∙ ap (λ ns. truths ns c.args.world.now) nodes in
    let entries : c.in_ok-column_of.field-0.items ≡ column_over (truths s.parts.nodes c.args.world.now) (rows_in s.parts.sentences) (given_in s.query) =
    c.in_ok-column_of.ensures ∙ (λ i. column_over (first i) (rows i) (given i)) in
    let cost : c.world_cost.result ≡ cost_over (phase_of c.args.kind) (both_in s.query) (truths s.parts.nodes c.args.world.now) =
    c.world_cost.ensures.value ∙ (λ i. cost_over (c.phase_of.ensures i) (both i) (second i)) in
    let fits : FitsSigned w8 c.world_cost.result = search rules in
    record { entries = entries ∙ column_is s c.args.world.now; cost = to_z-of_z w8 c.world_cost.result fits ∙ cost ∙ cost_is c.args.kind s c.args.world.now c.requires.asked }
