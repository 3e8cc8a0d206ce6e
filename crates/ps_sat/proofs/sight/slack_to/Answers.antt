use Rattle.std.proofs.Common.{◌≡◌, ◌∙◌, ◌-◌, ◌+◌, ◌<◌, ◌≤◌, to_z, Some, take, length, ap, sym, subst, arith}
use Rattle.std.specs.Prelude.{slice_get}
use Rattle.std.proofs.lemmas.Int.{ints}
use Rattle.std.proofs.lemmas.Option.{slice_get_read}
use Rattle.ps_pb.specs.Assignments.{place}
use Rattle.ps_pb.specs.Constraints.{slack}
use Rattle.ps_pb.specs.Weights.{IsNormal}
use Rattle.ps_learn.specs.Trails.{TrailEntry, decisions}
use Rattle.ps_sat.specs.Watches.{slot_of}
use mir.Syntax.{w128}
use Rattle.ps_sat.proofs.Slacks.{slot-read}
use Rattle.ps_sat.proofs.Backward.{back-more}
use Rattle.ps_sat.proofs.Sighted.{AreAboveFrom, cut-values, none-above, one-above, values-all, entry-level}
use Rattle.ps_sat.proofs.sight.slack_to.Goals as goal

pub back-init : goal.back-init
back-init c =
    let n = ap length c.entries-left.ensures.entries in
    record {
      within = omega (arith, n);
      slack_is = omega (arith, ints, c.requires.now ∙ ap (slack c.args.goal.now) (sym (values-all c.args.seen.now (length c.entries-left.result.now) n)));
      above = none-above c.args.seen.now (length c.entries-left.result.now) c.args.most n;
    }

pub bounds-coefficients-slot : goal.bounds-coefficients-slot
bounds-coefficients-slot c =
    let t = c.args.seen.now in
    let n = c.back.left - 1 in
    let less : n < length t.entries = omega (arith, c.back-test.true, c.back.invariant.within) in
    let at : slice_get t.entries n ≡ Some c.index-entries-left.result = subst (λ es. slice_get es n ≡ Some c.index-entries-left.result) c.entries.ensures.entries (slice_get_read c.entries.result.now _ n c.index-entries-left.result (ap length (sym c.entries.ensures.entries)) less c.index-entries-left.is) in
    let lit : c.last.inside.lit ≡ c.index-entries-left.result.lit = ap (λ (z : TrailEntry). z.lit) c.last.view_is in
    slot-read t.variables c.args.goal.now c.last.inside.lit c.args.coefficients.now c.slot.result c.requires.coefficients (subst (λ l. place l < t.variables) (sym lit) (c.entries.ensures.fresh.at n c.index-entries-left.result at).within) (c.slot.ensures ∙ ap slot_of c.opposite.ensures)

pub overflow_add-slack : goal.overflow_add-slack
overflow_add-slack c =
    let t = c.args.seen.now in
    let g = c.args.goal.now in
    let n = c.back.left - 1 in
    let less : n < length t.entries = omega (arith, c.back-test.true, c.back.invariant.within) in
    let at : slice_get t.entries n ≡ Some c.index-entries-left.result = subst (λ es. slice_get es n ≡ Some c.index-entries-left.result) c.entries.ensures.entries (slice_get_read c.entries.result.now _ n c.index-entries-left.result (ap length (sym c.entries.ensures.entries)) less c.index-entries-left.is) in
    let more = back-more t g n c.back.left c.index-entries-left.result c.last.inside.lit (to_z w128 c.back.slack-bits) c.args.coefficients.now c.slot.result (omega (arith, c.back-test.true)) at (ap (λ (z : TrailEntry). z.lit) c.last.view_is) c.entries.ensures.fresh (subst (λ ts. IsNormal ts g.degree) c.terms-terms.ensures.value c.terms-terms.ensures.normal) c.requires.coefficients c.back.invariant.slack_is (c.slot.ensures ∙ ap slot_of c.opposite.ensures) in
    omega (arith, ints, more.slack_size, more.size, more.now_size)

pub back-preserved : goal.back-preserved
back-preserved c =
    let t = c.args.seen.now in
    let g = c.args.goal.now in
    let n = c.back.left - 1 in
    let less : n < length t.entries = omega (arith, c.back-test.true, c.back.invariant.within) in
    let at : slice_get t.entries n ≡ Some c.index-entries-left.result = subst (λ es. slice_get es n ≡ Some c.index-entries-left.result) c.entries.ensures.entries (slice_get_read c.entries.result.now _ n c.index-entries-left.result (ap length (sym c.entries.ensures.entries)) less c.index-entries-left.is) in
    let more = back-more t g n c.back.left c.index-entries-left.result c.last.inside.lit (to_z w128 c.back.slack-bits) c.args.coefficients.now c.slot.result (omega (arith, c.back-test.true)) at (ap (λ (z : TrailEntry). z.lit) c.last.view_is) c.entries.ensures.fresh (subst (λ ts. IsNormal ts g.degree) c.terms-terms.ensures.value c.terms-terms.ensures.normal) c.requires.coefficients c.back.invariant.slack_is (c.slot.ensures ∙ ap slot_of c.opposite.ensures) in
    let high = ap (λ (z : TrailEntry). z.level) c.last.view_is in
    let next : c.back.left ≡ n + 1 = omega (arith, c.back-test.true) in
    record {
      within = omega (arith, less);
      slack_is = omega (arith, ints, more.now, more.slack_size, more.size, more.now_size);
      above = one-above t n c.args.most c.index-entries-left.result at (omega (arith, high, c.if-last-most.false)) (subst (λ k. AreAboveFrom t k c.args.most) next c.back.invariant.above);
    }

pub returns-then-last-most : goal.returns-then-last-most
returns-then-last-most c =
    let t = c.args.seen.now in
    let n = c.back.left - 1 in
    let less : n < length t.entries = omega (arith, c.back-test.true, c.back.invariant.within) in
    let at : slice_get t.entries n ≡ Some c.index-entries-left.result = subst (λ es. slice_get es n ≡ Some c.index-entries-left.result) c.entries.ensures.entries (slice_get_read c.entries.result.now _ n c.index-entries-left.result (ap length (sym c.entries.ensures.entries)) less c.index-entries-left.is) in
    let level = entry-level t n c.back.left c.index-entries-left.result c.entries.ensures.levels at (omega (arith, c.back-test.true)) in
    let low = ap (λ (z : TrailEntry). z.level) c.last.view_is in
    c.back.invariant.slack_is ∙ ap (slack c.args.goal.now) (sym (cut-values t c.back.left c.args.most c.entries.ensures.levels c.back.invariant.above (omega (arith, level, low, c.if-last-most.true))))

pub returns : goal.returns
returns c =
    let t = c.args.seen.now in
    let zero : c.back.left ≡ 0 = omega (arith, c.back-test.false) in
    let none : decisions (take c.back.left t.entries) ≤ c.args.most = rw zero (omega arith) in
    c.back.invariant.slack_is ∙ ap (slack c.args.goal.now) (sym (cut-values t c.back.left c.args.most c.entries-left.ensures.levels c.back.invariant.above none))
