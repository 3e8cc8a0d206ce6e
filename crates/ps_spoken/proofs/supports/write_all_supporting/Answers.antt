use Rattle.ps_spoken.specs.Supports.{supporting_text}
use Rattle.ps_spoken.proofs.Listed.{texts-more, texts-all}
use Rattle.ps_spoken.proofs.supports.write_all_supporting.Goals as goal

pub loop-place-preserved : goal.loop-place-preserved
loop-place-preserved c =
    texts-more (supporting_text c.args.problem.now c.args.side) c.args.all.now c.loop-place.place c.index-all-place.result c.loop-place-test.true c.index-all-place.is
    c.args.out.now.items c.loop-place.out.items c.write_supporting.new.out.items c.loop-place.invariant c.in_ok-write_supporting.ensures

pub returns : goal.returns
returns c =
    texts-all (supporting_text c.args.problem.now c.args.side) c.args.all.now c.loop-place.place c.loop-place-test.false
    c.args.out.now.items c.loop-place.out.items c.loop-place.invariant
