use Rattle.std.proofs.Common.{ap, ◌∙◌, sym, length, arith}
use Rattle.ps_learn.specs.Trails.{TrailEntry}
use Rattle.ps_learn.specs.Causes.{is_marked}
use Rattle.ps_learn.proofs.Before.{before-first, before-next, before-end, before-other, before-here}
use Rattle.ps_learn.proofs.explaining.is_marked_before.Goals as goal

pub down-init : goal.down-init
down-init c = before-first _ _ _ _

pub returns-then-entry-level : goal.returns-then-entry-level
returns-then-entry-level c =
    before-other c.args.trail.now _ c.level-level.result _ c.down.j _ c.index-entries-j.result c.entries-entries.ensures.entries c.level-level.ensures c.entries-entries.ensures.levels c.down.invariant c.down-test.true
    (omega (arith, c.down.invariant.within, c.requires, ap length c.entries-entries.ensures.entries)) c.index-entries-j.is (λ q. c.if-entry-level.true (ap (λ (x : TrailEntry). x.level) c.entry.view_is ∙ q))

pub returns-then-is_marked : goal.returns-then-is_marked
returns-then-is_marked c =
    before-here c.args.trail.now _ c.level-level.result c.args.marks.now c.down.j _ c.index-entries-j.result c.is_marked.result c.entries-entries.ensures.entries c.level-level.ensures c.down-test.true c.down.invariant.within
    (omega (arith, c.down.invariant.within, c.requires, ap length c.entries-entries.ensures.entries)) c.index-entries-j.is (ap (λ (x : TrailEntry). x.level) (sym c.entry.view_is) ∙ c.if-entry-level.false)
    (c.is_marked.ensures ∙ ap (λ (x : TrailEntry). is_marked c.args.marks.now x.lit) c.entry.view_is) c.if-is_marked.true

pub down-preserved : goal.down-preserved
down-preserved c =
    before-next c.level-level.result _ c.args.marks.now c.down.j _ c.index-entries-j.result c.is_marked.result c.down.invariant c.down-test.true
    (omega (arith, c.down.invariant.within, c.requires, ap length c.entries-entries.ensures.entries)) c.index-entries-j.is (c.is_marked.ensures ∙ ap (λ (x : TrailEntry). is_marked c.args.marks.now x.lit) c.entry.view_is) c.if-is_marked.false

pub returns : goal.returns
returns c = before-end c.args.trail.now _ c.level-level.result _ c.down.j _ c.entries-entries.ensures.entries c.level-level.ensures c.down.invariant (omega (arith, c.down-test.false))
