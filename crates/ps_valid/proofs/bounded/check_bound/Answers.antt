use Rattle.std.proofs.Common.{◌≡◌, ◌≢◌, pos, to_z, of_z, length, sym, ap, ◌∙◌, arith}
use Rattle.std.proofs.lemmas.Int.{ints}
use mir.Syntax.{w128}
use Rattle.ps_problem.specs.Problems.{bounds_in}
use Rattle.ps_claims.specs.Claims.{IsSound}
use Rattle.ps_claims.specs.Certificates.{entries, model_of, dual_of}
use Rattle.ps_valid.specs.Valuations.{IsTableOf}
use Rattle.ps_valid.specs.Tests.{evidence_weight}
use Rattle.ps_valid.proofs.BoundFaults.{bound_found, evidence_is, evidence_wrong, value_is, value_wrong}
use Rattle.ps_valid.proofs.ModelFaults.{low_weights}
use Rattle.ps_valid.proofs.ProperEntries.{refuted, zero_from}
use Rattle.ps_valid.proofs.Tables.{valuations_small, shape_of_worlds, total-valued}
use Rattle.ps_valid.proofs.bounded.check_bound.Goals as goal

pub evaluate-requires-clause-atoms : goal.evaluate-requires-clause-atoms
evaluate-requires-clause-atoms c = rw c.as_slice.ensures (λ k w lt. rw (shape_of_worlds _ c.args.model.now.worlds (c.has_wrong_shape.ensures.right c.if-has_wrong_shape.false) k w lt) c.formulas.ensures.atoms)

pub weight_given-evidence-requires-clause-valued : goal.weight_given-evidence-requires-clause-valued
weight_given-evidence-requires-clause-valued c =
    let table : IsTableOf c.args.problem.now.nodes (entries c.args.model.now.worlds) c.deref-2.result.now = rw (c.deref-2.ensures.value, ← c.formulas.ensures.nodes, ← c.as_slice.ensures) c.in_ok-valued.ensures.table in
    valuations_small c.args.problem.now.nodes c.args.model.now.worlds c.deref-2.result.now c.requires.model.worlds table

pub weight_given-evidence-requires-clause-total : goal.weight_given-evidence-requires-clause-total
weight_given-evidence-requires-clause-total c =
    let table : IsTableOf c.args.problem.now.nodes (entries c.args.model.now.worlds) c.deref-2.result.now = rw (c.deref-2.ensures.value, ← c.formulas.ensures.nodes, ← c.as_slice.ensures) c.in_ok-valued.ensures.table in
    let sound : IsSound c.args.problem.now (model_of c.args.model.now) = c.in_default.ensures in
    let same : to_z w128 (of_z w128 c.args.model.now.total) ≡ c.args.model.now.total = omega (arith, ints, c.requires.model.total.low, c.requires.model.total.high) in
    same ∙ sound.total.1 ∙ sym (total-valued c.args.problem.now.nodes c.args.model.now.worlds c.deref-2.result.now table)

pub returns-then-evidence-eq0 : goal.returns-then-evidence-eq0
returns-then-evidence-eq0 c =
    let table : IsTableOf c.args.problem.now.nodes (entries c.args.model.now.worlds) c.deref-2.result.now = rw (c.deref-2.ensures.value, ← c.formulas.ensures.nodes, ← c.as_slice.ensures) c.in_ok-valued.ensures.table in
    let rows : length c.args.dual.now.rows ≡ length (bounds_in c.args.problem.now.sentences) = omega (arith, c.if-len-bounds.false, c.len.ensures, c.bounds.ensures.bounds) in
    let evidence = evidence_is c.args.problem.now c.args.query.now c.args.model.now c.deref-2.result.now c.weight_given-evidence.result c.requires.query table c.weight_given-evidence.ensures.weight in
    let none = sym evidence ∙ zero_from c.weight_given-evidence.result c.weight_given-evidence.ensures.low c.if-evidence-eq0.true in
    evidence_wrong c.args.problem.now c.args.kind c.args.query.now c.args.value.now (model_of c.args.model.now) (dual_of c.args.dual.now) (c.has_wrong_shape.ensures.right c.if-has_wrong_shape.false) rows c.in_default.ensures none

pub weight_of-requires-clause-valued : goal.weight_of-requires-clause-valued
weight_of-requires-clause-valued c =
    let table : IsTableOf c.args.problem.now.nodes (entries c.args.model.now.worlds) c.deref-3.result.now = rw (c.deref-3.ensures.value, ← c.formulas.ensures.nodes, ← c.as_slice.ensures) c.in_ok-valued.ensures.table in
    valuations_small c.args.problem.now.nodes c.args.model.now.worlds c.deref-3.result.now c.requires.model.worlds table

pub returns-then-not-is_quotient : goal.returns-then-not-is_quotient
returns-then-not-is_quotient c =
    let table : IsTableOf c.args.problem.now.nodes (entries c.args.model.now.worlds) c.in_ok-valued.valued.items = rw (← c.formulas.ensures.nodes, ← c.as_slice.ensures) c.in_ok-valued.ensures.table in
    let rows : length c.args.dual.now.rows ≡ length (bounds_in c.args.problem.now.sentences) = omega (arith, c.if-len-bounds.false, c.len.ensures, c.bounds.ensures.bounds) in
    let evidence = evidence_is c.args.problem.now c.args.query.now c.args.model.now c.in_ok-valued.valued.items c.weight_given-evidence.result c.requires.query table (rw c.deref-2.ensures.value at c.weight_given-evidence.ensures.weight) in
    let some : evidence_weight c.args.problem.now c.args.query.now (model_of c.args.model.now) ≢ pos 0 = λ e. c.if-evidence-eq0.false (ap (of_z w128) (evidence ∙ e)) in
    let over : to_z w128 (of_z w128 c.weight_of.result) ≡ c.weight_of.result = omega (arith, ints, c.weight_of.ensures.low, c.weight_of.ensures.high) in
    let under : to_z w128 (of_z w128 c.weight_given-evidence.result) ≡ c.weight_given-evidence.result = omega (arith, ints, c.weight_given-evidence.ensures.low, c.weight_given-evidence.ensures.high) in
    let value =
    value_is c.args.problem.now c.args.query.now c.args.value.now c.args.model.now c.in_ok-valued.valued.items (to_z w128 (of_z w128 c.weight_of.result)) (to_z w128 (of_z w128 c.weight_given-evidence.result)) c.requires.query table
    (over ∙ (rw c.deref-3.ensures.value at c.weight_of.ensures.weight)) (under ∙ evidence) in
    let other = refuted c.is_quotient.result c.if-not-is_quotient.true c.is_quotient.ensures.1 in
    value_wrong c.args.problem.now c.args.kind c.args.query.now c.args.value.now (model_of c.args.model.now) (dual_of c.args.dual.now) (c.has_wrong_shape.ensures.right c.if-has_wrong_shape.false) rows c.in_default.ensures some
    (λ gives. other (value.1 gives))

pub returns : goal.returns
returns c =
    let table : IsTableOf c.args.problem.now.nodes (entries c.args.model.now.worlds) c.in_ok-valued.valued.items = rw (← c.formulas.ensures.nodes, ← c.as_slice.ensures) c.in_ok-valued.ensures.table in
    let rows : length c.args.dual.now.rows ≡ length (bounds_in c.args.problem.now.sentences) = omega (arith, c.if-len-bounds.false, c.len.ensures, c.bounds.ensures.bounds) in
    let evidence = evidence_is c.args.problem.now c.args.query.now c.args.model.now c.in_ok-valued.valued.items c.weight_given-evidence.result c.requires.query table (rw c.deref-2.ensures.value at c.weight_given-evidence.ensures.weight) in
    let some : evidence_weight c.args.problem.now c.args.query.now (model_of c.args.model.now) ≢ pos 0 = λ e. c.if-evidence-eq0.false (ap (of_z w128) (evidence ∙ e)) in
    let over : to_z w128 (of_z w128 c.weight_of.result) ≡ c.weight_of.result = omega (arith, ints, c.weight_of.ensures.low, c.weight_of.ensures.high) in
    let under : to_z w128 (of_z w128 c.weight_given-evidence.result) ≡ c.weight_given-evidence.result = omega (arith, ints, c.weight_given-evidence.ensures.low, c.weight_given-evidence.ensures.high) in
    let value =
    value_is c.args.problem.now c.args.query.now c.args.value.now c.args.model.now c.in_ok-valued.valued.items (to_z w128 (of_z w128 c.weight_of.result)) (to_z w128 (of_z w128 c.weight_given-evidence.result)) c.requires.query table
    (over ∙ (rw c.deref-3.ensures.value at c.weight_of.ensures.weight)) (under ∙ evidence) in
    bound_found c.args.problem.now c.args.kind c.args.query.now c.args.value.now (model_of c.args.model.now) (dual_of c.args.dual.now) c.first_in_dual.result (low_weights c.args.model.now c.requires.model)
    (c.has_wrong_shape.ensures.right c.if-has_wrong_shape.false) rows c.in_default.ensures some (value.0 (c.is_quotient.ensures.0 c.if-not-is_quotient.false)) c.first_in_dual.ensures
