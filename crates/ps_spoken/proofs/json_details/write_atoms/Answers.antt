use Rattle.ps_spoken.specs.JsonDetails.{atom_item}
use Rattle.ps_spoken.proofs.Listed.{texts-at, texts-all}
use Rattle.ps_spoken.proofs.json_details.write_atoms.Goals as goal

pub loop-place-preserved : goal.loop-place-preserved
loop-place-preserved c =
    texts-at (atom_item c.args.problem.now) c.args.atoms.now c.loop-place.place 0 c.loop-place-test.true
    c.args.out.now.items c.loop-place.out.items c.write_atom_item.new.out.items c.loop-place.invariant c.in_ok-write_atom_item.ensures

pub returns : goal.returns
returns c =
    texts-all (atom_item c.args.problem.now) c.args.atoms.now c.loop-place.place c.loop-place-test.false
    c.args.out.now.items c.loop-place.out.items c.loop-place.invariant
