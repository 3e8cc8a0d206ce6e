use Rattle.ps_spoken.specs.Strings.{text_at}
use Rattle.ps_spoken.proofs.Listed.{texts-at, texts-all}
use Rattle.ps_spoken.proofs.strings.write_escaped.Goals as goal

pub loop-place-preserved : goal.loop-place-preserved
loop-place-preserved c =
    texts-at (text_at c.args.bytes.now) c.args.bytes.now c.loop-place.place 0 c.loop-place-test.true
    c.args.out.now.items c.loop-place.out.items c.write_at.new.out.items c.loop-place.invariant c.in_ok-write_at.ensures

pub returns : goal.returns
returns c =
    texts-all (text_at c.args.bytes.now) c.args.bytes.now c.loop-place.place c.loop-place-test.false
    c.args.out.now.items c.loop-place.out.items c.loop-place.invariant
