use Rattle.std.proofs.Common.{arith}
use Rattle.std.proofs.lemmas.Grind.{common_steps}
use Rattle.ps_clause.proofs.Atoms.{world_has, world_full}
use Rattle.ps_clause.proofs.extension.world_of.Goals as goal

pub returns-clause-atoms : goal.returns-clause-atoms
returns-clause-atoms c = world_has c.world_of_values.result c.args.atoms c.args.formulas.now c.args.a.now (rw c.nodes.ensures.nodes at c.nodes.ensures.sound) c.requires (grind (arith, common_steps))

pub returns-clause-full : goal.returns-clause-full
returns-clause-full c = world_full c.world_of_values.result c.args.atoms c.args.formulas.now c.args.a.now (grind (arith, common_steps))
