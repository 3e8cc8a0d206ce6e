use Rattle.std.proofs.Common.{arith}
use Rattle.std.proofs.lemmas.Grind.{common_steps}
use Rattle.ps_formula.specs.declared.node.Node.TheVariants.{True}
use Rattle.ps_clause.proofs.Nodes.{form_more}
use Rattle.ps_clause.proofs.clauses.clauses_of_nodes.Goals as goal

pub loop-x-preserved : goal.loop-x-preserved
loop-x-preserved c =
    let more = form_more c.args.nodes.now c.loop-x.x True c.loop-x-test.true in
    grind (arith, common_steps, more)
