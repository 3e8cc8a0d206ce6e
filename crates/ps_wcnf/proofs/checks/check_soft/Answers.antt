use Rattle.std.proofs.Common.{arith, rules}
use Rattle.ps_log.proofs.Within.{all_taken, one_more}
use Rattle.ps_wcnf.specs.Costs.{Soft}
use Rattle.ps_wcnf.specs.Limits.{AreLiterals}
use Rattle.ps_wcnf.proofs.checks.check_soft.Goals as goal

pub loop-clause-preserved : goal.loop-clause-preserved
loop-clause-preserved c =
    one_more (λ (s : Soft). AreLiterals s.1) c.args.soft.now c.loop-clause.clause-index c.clause-item.result c.loop-clause-test.true c.clause-item.is c.loop-clause.invariant (search rules)

pub returns : goal.returns
returns c = all_taken (λ (s : Soft). AreLiterals s.1) c.args.soft.now c.loop-clause.clause-index (omega (arith, c.loop-clause-test.false)) c.loop-clause.invariant
