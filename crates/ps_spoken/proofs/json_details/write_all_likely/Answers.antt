use Rattle.ps_spoken.specs.JsonDetails.{likely_item}
use Rattle.ps_spoken.proofs.Listed.{texts-more, texts-all}
use Rattle.ps_spoken.proofs.json_details.write_all_likely.Goals as goal

pub loop-place-preserved : goal.loop-place-preserved
loop-place-preserved c =
    texts-more (likely_item c.args.problem.now) c.args.worlds.now c.loop-place.place c.index-worlds-place.result c.loop-place-test.true c.index-worlds-place.is
    c.args.out.now.items c.loop-place.out.items c.write_likely.new.out.items c.loop-place.invariant c.in_ok-write_likely.ensures

pub returns : goal.returns
returns c =
    texts-all (likely_item c.args.problem.now) c.args.worlds.now c.loop-place.place c.loop-place-test.false
    c.args.out.now.items c.loop-place.out.items c.loop-place.invariant
