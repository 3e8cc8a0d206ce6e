use Rattle.std.proofs.Common.{arith}
use Rattle.ps_spoken.specs.declared.examples.TheConstants.{MOST_WORLDS}
use Rattle.ps_spoken.specs.Examples.{world_text}
use Rattle.ps_spoken.proofs.Beneath.{shown_all}
use Rattle.ps_spoken.proofs.Listed.{texts-more}
use Rattle.ps_spoken.proofs.examples.write_worlds.Goals as goal

pub loop-place-preserved : goal.loop-place-preserved
loop-place-preserved c =
    texts-more (world_text c.args.digits c.args.problem.now) c.args.worlds.now c.loop-place.place c.index-worlds-place.result (omega arith) c.index-worlds-place.is
    c.args.out.now.items c.loop-place.out.items c.write_world.new.out.items c.loop-place.invariant c.in_ok-write_world.ensures

pub returns : goal.returns
returns c =
    shown_all (world_text c.args.digits c.args.problem.now) c.args.worlds.now MOST_WORLDS c.loop-place.place (omega arith) (omega arith)
    c.args.out.now.items c.loop-place.out.items c.loop-place.invariant
