use Rattle.ps_spoken.specs.Examples.{joined_atom}
use Rattle.ps_spoken.proofs.Listed.{texts-at, texts-all}
use Rattle.ps_spoken.proofs.examples.write_names.Goals as goal

pub loop-place-preserved : goal.loop-place-preserved
loop-place-preserved c =
    texts-at (joined_atom c.args.problem.now) c.args.atoms.now c.loop-place.place 0 c.loop-place-test.true
    c.args.out.now.items c.loop-place.out.items c.write_joined.new.out.items c.loop-place.invariant c.in_ok-write_joined.ensures

pub returns : goal.returns
returns c =
    texts-all (joined_atom c.args.problem.now) c.args.atoms.now c.loop-place.place c.loop-place-test.false
    c.args.out.now.items c.loop-place.out.items c.loop-place.invariant
