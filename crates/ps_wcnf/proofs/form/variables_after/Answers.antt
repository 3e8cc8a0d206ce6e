use Rattle.std.proofs.Common.{arith, ◌∙◌}
use Rattle.ps_wcnf.proofs.Building.{after-more, after-within}
use Rattle.ps_wcnf.proofs.form.variables_after.Goals as goal

pub after-requires : goal.after-requires
after-requires c =
    omega (arith, c.requires, after-within c.args.first c.args.soft.now c.loop-clause.clause-index c.clause-item.result c.loop-clause.n c.loop-clause-test.true c.clause-item.is c.loop-clause.invariant)

pub loop-clause-preserved : goal.loop-clause-preserved
loop-clause-preserved c =
    c.in_ok-n.ensures ∙ after-more c.args.first c.args.soft.now c.loop-clause.clause-index c.clause-item.result c.loop-clause.n c.loop-clause-test.true c.clause-item.is c.loop-clause.invariant
