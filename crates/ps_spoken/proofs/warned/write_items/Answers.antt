use Rattle.ps_spoken.specs.Warned.{warned_item}
use Rattle.ps_spoken.proofs.Listed.{texts-more, texts-all}
use Rattle.ps_spoken.proofs.warned.write_items.Goals as goal

pub loop-place-preserved : goal.loop-place-preserved
loop-place-preserved c =
    texts-more warned_item c.args.all.now c.loop-place.place c.index-all-place.result c.loop-place-test.true c.index-all-place.is
    c.args.out.now.items c.loop-place.out.items c.write_item.new.out.items c.loop-place.invariant c.in_ok-write_item.ensures

pub returns : goal.returns
returns c =
    texts-all warned_item c.args.all.now c.loop-place.place c.loop-place-test.false
    c.args.out.now.items c.loop-place.out.items c.loop-place.invariant
