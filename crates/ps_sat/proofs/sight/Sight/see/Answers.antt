use Rattle.std.proofs.Common.{◌∙◌, ap, arith}
use Rattle.std.proofs.lemmas.Int.{ints}
use Rattle.ps_learn.specs.Trails.{values}
use Rattle.ps_learn.proofs.Entries.{values-append, length-values}
use Rattle.ps_sat.specs.Watches.{slot_of}
use Rattle.ps_sat.proofs.Slacks.{seen-less, sight-more}
use Rattle.ps_sat.proofs.Sighted.{fresh-view}
use Rattle.ps_sat.proofs.sight.Sight.see.Goals as goal

pub overflow_sub-self : goal.overflow_sub-self
overflow_sub-self c =
    let s = c.self.inside in
    let fresh = fresh-view s.goal s.seen c.args.self.now _ c.args.entry.now c.self.view_is c.entry.view_is c.requires.fresh in
    let less = seen-less s.seen.variables s.goal (values s.seen) c.entry.inside.lit s.slack c.index.result.now s.coefficients.items c.slot.result (length-values s.seen.variables s.seen.entries) c.self.invariant.normal c.self.invariant.filled fresh c.self.invariant.slack_is (c.slot.ensures ∙ ap slot_of c.opposite.ensures) c.index.ensures in
    omega (arith, ints, less.slack_size, less.size, less.now_size)

pub invariant_of-self : goal.invariant_of-self
invariant_of-self c =
    let s = c.self.inside in
    let fresh = fresh-view s.goal s.seen c.args.self.now _ c.args.entry.now c.self.view_is c.entry.view_is c.requires.fresh in
    let less = seen-less s.seen.variables s.goal (values s.seen) c.entry.inside.lit s.slack c.index.result.now s.coefficients.items c.slot.result (length-values s.seen.variables s.seen.entries) c.self.invariant.normal c.self.invariant.filled fresh c.self.invariant.slack_is (c.slot.ensures ∙ ap slot_of c.opposite.ensures) c.index.ensures in
    sight-more s.seen c.decide.new.self s.goal s.coefficients.items s.terms.items s.slack _ c.entry.inside.lit c.self.invariant (ap (λ z. z.variables) c.decide.ensures)
    (ap values c.decide.ensures ∙ values-append s.seen.variables s.seen.entries _) (omega (arith, ints, less.now, less.slack_size, less.size, less.now_size))

pub invariant_of-self-in-Some : goal.invariant_of-self-in-Some
invariant_of-self-in-Some c =
    let s = c.self.inside in
    let fresh = fresh-view s.goal s.seen c.args.self.now _ c.args.entry.now c.self.view_is c.entry.view_is c.requires.fresh in
    let less = seen-less s.seen.variables s.goal (values s.seen) c.entry.inside.lit s.slack c.index.result.now s.coefficients.items c.slot.result (length-values s.seen.variables s.seen.entries) c.self.invariant.normal c.self.invariant.filled fresh c.self.invariant.slack_is (c.slot.ensures ∙ ap slot_of c.opposite.ensures) c.index.ensures in
    sight-more s.seen c.imply.new.self s.goal s.coefficients.items s.terms.items s.slack _ c.entry.inside.lit c.self.invariant (ap (λ z. z.variables) c.imply.ensures)
    (ap values c.imply.ensures ∙ values-append s.seen.variables s.seen.entries _) (omega (arith, ints, less.now, less.slack_size, less.size, less.now_size))
