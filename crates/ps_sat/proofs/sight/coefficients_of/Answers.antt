use Rattle.std.proofs.Common.{◌≡◌, ◌∙◌, ◌<◌, ◌+ℤ◌, pos, to_z, of_z, get_or, set, ap, sym, subst, arith, All}
use mir.Syntax.{w128}
use Rattle.std.proofs.lemmas.Int.{ints}
use Rattle.ps_pb.specs.Assignments.{place}
use Rattle.ps_pb.specs.Weights.{Weighted, IsNormal}
use Rattle.ps_sat.specs.Watches.{slot_of}
use Rattle.ps_sat.proofs.Linked.{read-at}
use Rattle.ps_sat.proofs.Slacks.{filled-size, filled-next, slot-inside}
use Rattle.ps_sat.proofs.sight.coefficients_of.Goals as goal

pub overflow_add-index_mut : goal.overflow_add-index_mut
overflow_add-index_mut c =
    let ts = c.as_slice-term-items.result.now in
    let i = c.loop-term.term-index in
    let xs = c.loop-term.coefficients.items in
    let normal = subst (λ (us : Weighted). IsNormal us c.args.goal.now.degree) (sym c.as_slice-term-items.ensures) c.terms.ensures.normal in
    let inside = slot-inside c.args.variables ts i c.term-item.result (subst (λ (us : Weighted). All (λ t. place t.0 < c.args.variables) us) (sym (c.as_slice-term-items.ensures ∙ c.terms.ensures.value)) c.requires) c.loop-term-test.true c.term-item.is in
    let size = filled-size c.args.variables ts i c.term-item.result xs normal.positive c.loop-term-test.true c.term-item.is inside c.loop-term.invariant in
    let read : get_or xs (slot_of c.term-item.result.0) (pos 0) ≡ c.index_mut.result.now = ap (λ z. get_or xs z (pos 0)) (sym c.slot.ensures) ∙ read-at xs c.slot.result c.index_mut.result.now (pos 0) (omega (arith, c.slot.ensures, inside, c.loop-term.invariant.length_is)) c.index_mut.ensures.value in
    omega (arith, ints, size.0, size.1, read, normal.narrow)

pub loop-term-preserved : goal.loop-term-preserved
loop-term-preserved c =
    let ts = c.as_slice-term-items.result.now in
    let i = c.loop-term.term-index in
    let xs = c.loop-term.coefficients.items in
    let normal = subst (λ (us : Weighted). IsNormal us c.args.goal.now.degree) (sym c.as_slice-term-items.ensures) c.terms.ensures.normal in
    let inside = slot-inside c.args.variables ts i c.term-item.result (subst (λ (us : Weighted). All (λ t. place t.0 < c.args.variables) us) (sym (c.as_slice-term-items.ensures ∙ c.terms.ensures.value)) c.requires) c.loop-term-test.true c.term-item.is in
    let size = filled-size c.args.variables ts i c.term-item.result xs normal.positive c.loop-term-test.true c.term-item.is inside c.loop-term.invariant in
    let read : get_or xs (slot_of c.term-item.result.0) (pos 0) ≡ c.index_mut.result.now = ap (λ z. get_or xs z (pos 0)) (sym c.slot.ensures) ∙ read-at xs c.slot.result c.index_mut.result.now (pos 0) (omega (arith, c.slot.ensures, inside, c.loop-term.invariant.length_is)) c.index_mut.ensures.value in
    filled-next c.args.variables ts i c.term-item.result xs _ (to_z w128 (of_z w128 (to_z w128 (of_z w128 c.index_mut.result.now) +ℤ to_z w128 (of_z w128 c.term-item.result.1)))) normal.positive c.loop-term-test.true c.term-item.is inside (ap (λ p. set xs p (to_z w128 (of_z w128 (to_z w128 (of_z w128 c.index_mut.result.now) +ℤ to_z w128 (of_z w128 c.term-item.result.1))))) c.slot.ensures)
    (omega (arith, ints, size.0, size.1, read, normal.narrow)) c.loop-term.invariant
