use Rattle.std.proofs.Common.{refl}
use Rattle.ps_learn.proofs.Steps.{drawn-none, drawn-next}
use Rattle.ps_learn.proofs.learning.kept_lits.Goals as goal

pub loop-entry-init : goal.loop-entry-init
loop-entry-init c = drawn-none _ _ _ _ c.new.ensures refl refl c.requires.unset

pub loop-entry-preserved : goal.loop-entry-preserved
loop-entry-preserved c =
    drawn-next c.args.trail.now _ _ _ _ _ _ _ c.entry-item.result c.entries-entry-items.ensures.entries c.entries-entry-items.ensures.fresh c.entries-entry-items.ensures.levels c.requires.once c.loop-entry.invariant
    c.loop-entry-test.true c.entry-item.is c.in_ok-add_kept.ensures
