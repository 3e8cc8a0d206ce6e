use Rattle.ps_spoken.specs.Queries.{entry_text}
use Rattle.ps_spoken.proofs.Listed.{texts-more, texts-all}
use Rattle.ps_spoken.proofs.queries.write_queries.Goals as goal

pub loop-place-preserved : goal.loop-place-preserved
loop-place-preserved c =
    texts-more (entry_text c.args.digits c.args.problem.now c.args.details.now) c.args.parts.now c.loop-place.place c.index-parts-place.result c.loop-place-test.true c.index-parts-place.is
    c.args.out.now.items c.loop-place.out.items c.write_entry.new.out.items c.loop-place.invariant c.in_ok-write_entry.ensures

pub returns : goal.returns
returns c =
    texts-all (entry_text c.args.digits c.args.problem.now c.args.details.now) c.args.parts.now c.loop-place.place c.loop-place-test.false
    c.args.out.now.items c.loop-place.out.items c.loop-place.invariant
