use Rattle.std.proofs.Common.{arith}
use Rattle.ps_sat.proofs.Atoms.{atoms_none, atoms_skip, all_set, open_here}
use Rattle.ps_sat.proofs.order.first_open.Goals as goal

pub loop-place-init : goal.loop-place-init
loop-place-init c = atoms_none c.args.base.now c.args.a.now

pub returns-then-is_open_atom : goal.returns-then-is_open_atom
returns-then-is_open_atom c = open_here c.args.base.now c.args.a.now c.loop-place.place c.is_open_atom.result c.of_place.result (omega (arith, c.loop-place-test.true, c.variables-place-end.ensures.value)) c.is_open_atom.ensures c.if-is_open_atom.true c.of_place.ensures

pub loop-place-preserved : goal.loop-place-preserved
loop-place-preserved c = atoms_skip c.args.base.now c.args.a.now c.loop-place.place c.is_open_atom.result c.loop-place.invariant c.is_open_atom.ensures c.if-is_open_atom.false

pub returns : goal.returns
returns c = all_set c.args.base.now c.args.a.now c.loop-place.place c.loop-place.invariant (omega (arith, c.loop-place-test.false, c.variables-place-end.ensures.value))
