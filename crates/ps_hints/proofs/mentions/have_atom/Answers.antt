use Rattle.std.proofs.Common.{arith}
use Rattle.std.proofs.lemmas.Grind.{common_steps}
use Rattle.ps_formula.specs.declared.node.Node.TheVariants.{True}
use Rattle.ps_hints.proofs.Atoms.{atoms-more}
use Rattle.ps_hints.proofs.mentions.have_atom.Goals as goal

pub loop-node-preserved : goal.loop-node-preserved
loop-node-preserved c =
    let more = atoms-more c.args.atom c.args.nodes.now c.loop-node.node-index True c.loop-node-test.true in
    record { so_far = rw (more, c.in_ok-push.ensures.items) (grind (arith, common_steps)); len = grind (arith, common_steps) }
