use Rattle.std.proofs.Common.{◌∙◌, length, ap, false}
use Rattle.std.specs.Option.{unwrap_or}
use Rattle.ps_clause.specs.Extensions.{values_of}
use Rattle.ps_clause.proofs.Values.{no_nodes}
use Rattle.ps_clause.proofs.Atoms.{atom_set, other_passed}
use Rattle.ps_clause.proofs.extension.set_atoms.Goals as goal
use Rattle.ps_clause.proofs.extension.set_atoms.Goals.{in-Atom, in_default}

pub loop-i-init : goal.loop-i-init
loop-i-init c = c.requires.unset ∙ no_nodes (length c.args.values.now) (values_of c.args.a.now)

pub loop-i-preserved : goal.loop-i-preserved
loop-i-preserved c =
    let atoms = length c.args.values.now in
    elim c.match-nodes-i.branch [
      | in-Atom w ↦ atom_set atoms c.args.nodes.now c.args.a.now c.loop-i.i w.in-Atom.atom c.loop-i.values c.match-nodes-i.values w.unwrap_or.result c.requires.sound c.requires.atoms c.loop-i-test.true w.in-Atom.is (w.unwrap_or.ensures ∙ ap (λ o. unwrap_or o false) w.value.ensures) w.values-is c.loop-i.invariant
      | in_default w ↦ other_passed atoms c.args.nodes.now c.args.a.now c.loop-i.i c.loop-i.values c.match-nodes-i.values c.loop-i-test.true w.in_default.not-Atom w.values-is c.loop-i.invariant
    ]
