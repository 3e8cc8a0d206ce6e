use Rattle.std.proofs.Common.{◌≡◌, ◌∙◌, ◌-◌, ◌+◌, ◌<◌, length, ap, sym, subst, arith}
use Rattle.std.proofs.lemmas.Int.{ints}
use Rattle.ps_pb.specs.Assignments.{is_unset}
use Rattle.ps_pb.specs.Weights.{IsNormal, weighted}
use Rattle.ps_sat.proofs.Slacks.{AreUnforcedFrom, sorted-term, sorted-forces, none-below, none-forced, unforced-more, none-unset, some-set}
use Rattle.ps_sat.proofs.sight.last_forced.Goals as goal

pub returns-then-term-room : goal.returns-then-term-room
returns-then-term-room c =
    let g = c.args.goal.now in
    let normal : IsNormal (weighted g.terms) g.degree = subst (λ ts. IsNormal ts g.degree) c.terms-terms.ensures.value c.terms-terms.ensures.normal in
    let less : c.back.left - 1 < length c.args.terms.now = omega (arith, c.back-test.true, c.back.invariant.within) in
    let own = sorted-term g c.args.terms.now (c.back.left - 1) c.index-terms-left.result normal c.requires.terms less c.index-terms-left.is in
    let next : c.back.left - 1 + 1 ≡ c.back.left = omega (arith, c.back-test.true) in
    none-below g c.args.a.now c.args.room.now c.args.terms.now (c.back.left - 1) c.index-terms-left.result c.requires.terms c.requires.room less c.index-terms-left.is own.1 (omega (arith, ints, c.if-term-room.true))
    (subst (AreUnforcedFrom c.args.room.now c.args.a.now c.args.terms.now) (sym next) c.back.invariant.unforced)

pub returns-then-is_none : goal.returns-then-is_none
returns-then-is_none c =
    let g = c.args.goal.now in
    let normal : IsNormal (weighted g.terms) g.degree = subst (λ ts. IsNormal ts g.degree) c.terms-terms.ensures.value c.terms-terms.ensures.normal in
    let less : c.back.left - 1 < length c.args.terms.now = omega (arith, c.back-test.true, c.back.invariant.within) in (
      sorted-forces g c.args.a.now c.args.room.now c.args.terms.now (c.back.left - 1) c.index-terms-left.result normal c.requires.terms c.requires.room less c.index-terms-left.is (omega (arith, ints, c.if-term-room.false))
          (ap is_unset (sym c.value_of.ensures) ∙ none-unset c.value_of.result (c.if-is_none.ensures)),
      omega (arith, c.variable-variable.ensures.value, c.variable-variable.ensures.within.0),
    )

pub returns : goal.returns
returns c =
    let zero : c.back.left ≡ 0 = omega (arith, c.back-test.false) in
    none-forced c.args.goal.now c.args.a.now c.args.room.now c.args.terms.now c.requires.terms c.requires.room (subst (AreUnforcedFrom c.args.room.now c.args.a.now c.args.terms.now) zero c.back.invariant.unforced)

pub back-preserved : goal.back-preserved
back-preserved c =
    let less : c.back.left - 1 < length c.args.terms.now = omega (arith, c.back-test.true, c.back.invariant.within) in
    let next : c.back.left - 1 + 1 ≡ c.back.left = omega (arith, c.back-test.true) in
    record {
      within = omega (arith, less);
      unforced = unforced-more c.args.room.now c.args.a.now c.args.terms.now (c.back.left - 1) c.index-terms-left.result less c.index-terms-left.is
          (ap is_unset (sym c.value_of.ensures) ∙ some-set c.value_of.result (c.if-is_none.ensures))
          (subst (AreUnforcedFrom c.args.room.now c.args.a.now c.args.terms.now) (sym next) c.back.invariant.unforced);
    }
