use Rattle.std.proofs.Common.{◌∙◌, ◌<◌, length, subst, refl, arith}
use Rattle.ps_learn.proofs.Counting.{counted}
use Rattle.ps_sat.specs.Going.{watched, HasGone}
use Rattle.ps_sat.proofs.Followed.{now-false, opposite-within, followed-first, followed-stop, followed-next}
use Rattle.ps_sat.proofs.going.follow.Goals as goal

pub on-init : goal.on-init
on-init c = record {
  followed = followed-first c.args.known.now c.args.w.now c.args.trail.now c.args.done.now c.requires.kept c.requires.filed c.requires.done c.requires.good;
  grows = omega arith;
  room = refl;
}

pub go_through-requires-clause-false_is : goal.go_through-requires-clause-false_is
go_through-requires-clause-false_is c = now-false c.on.trail c.on.done c.opposite_at-lit.result c.entries.ensures.fresh c.opposite_at-lit.ensures

pub go_through-requires-clause-within : goal.go_through-requires-clause-within
go_through-requires-clause-within c = opposite-within c.on.trail c.on.done c.opposite_at-lit.result c.entries.ensures.fresh c.opposite_at-lit.ensures

pub returns-in-Some-clause-followed : goal.returns-in-Some-clause-followed
returns-in-Some-clause-followed c =
    followed-stop c.args.known.now c.args.w.now c.args.trail.now c.on.w c.on.trail c.go_through.new.w c.go_through.new.trail c.on.done c.in-Some.id c.opposite_at-lit.result c.entries.ensures.fresh c.on.invariant.followed
    (subst (λ z. HasGone c.args.known.now (watched c.on.w c.on.trail) (watched c.go_through.new.w c.go_through.new.trail) c.opposite_at-lit.result z) c.in-Some.is c.go_through.ensures.gone)

pub on-smaller : goal.on-smaller
on-smaller c =
    let n = counted c.on.trail.variables c.on.trail.entries c.entries.ensures.fresh in
    let less : c.on.done < length c.on.trail.entries = rw (← c.entries.ensures.entries) c.on-test.true in
    omega (arith, n, less, c.on.invariant.followed.extends.variables)

pub on-preserved : goal.on-preserved
on-preserved c = record {
  grows = omega (arith, c.on.invariant.grows);
  room = c.go_through.ensures.room ∙ c.on.invariant.room;
  followed =
      followed-next c.args.known.now c.args.w.now c.args.trail.now c.on.w c.on.trail c.go_through.new.w c.go_through.new.trail c.on.done c.opposite_at-lit.result c.entries.ensures.fresh c.on.invariant.followed c.opposite_at-lit.ensures
      (subst (λ z. HasGone c.args.known.now (watched c.on.w c.on.trail) (watched c.go_through.new.w c.go_through.new.trail) c.opposite_at-lit.result z) c.in_default.is c.go_through.ensures.gone);
}
