use Rattle.ps_spoken.specs.Unused.{unused_item}
use Rattle.ps_spoken.proofs.Listed.{texts-at, texts-all}
use Rattle.ps_spoken.proofs.unused.write_items.Goals as goal

pub loop-place-preserved : goal.loop-place-preserved
loop-place-preserved c =
    texts-at (unused_item c.args.problem.now c.args.lines.now) c.args.sentences.now c.loop-place.place 0 c.loop-place-test.true
    c.args.out.now.items c.loop-place.out.items c.write_item.new.out.items c.loop-place.invariant c.in_ok-write_item.ensures

pub returns : goal.returns
returns c =
    texts-all (unused_item c.args.problem.now c.args.lines.now) c.args.sentences.now c.loop-place.place c.loop-place-test.false
    c.args.out.now.items c.loop-place.out.items c.loop-place.invariant
