use Rattle.std.proofs.Common.{arith, rules}
use Rattle.ps_log.proofs.Within.{all_taken, one_more}
use Rattle.ps_wcnf.specs.Limits.{AreLiterals}
use Rattle.ps_wcnf.proofs.checks.check_hard.Goals as goal

pub loop-lits-preserved : goal.loop-lits-preserved
loop-lits-preserved c =
    one_more AreLiterals c.args.hard.now c.loop-lits.lits-index c.lits-item.result c.loop-lits-test.true c.lits-item.is c.loop-lits.invariant (search rules)

pub returns : goal.returns
returns c = all_taken AreLiterals c.args.hard.now c.loop-lits.lits-index (omega (arith, c.loop-lits-test.false)) c.loop-lits.invariant
