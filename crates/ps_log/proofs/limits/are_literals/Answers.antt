use Rattle.std.proofs.Common.{arith}
use Rattle.ps_pb.specs.Limits.{IsLiteral}
use Rattle.ps_log.proofs.Within.{all_taken, one_more}
use Rattle.ps_log.proofs.limits.are_literals.Goals as goal

pub loop-lit-preserved : goal.loop-lit-preserved
loop-lit-preserved c =
    one_more IsLiteral c.args.lits.now c.loop-lit.lit-index c.lit-item.result c.loop-lit-test.true c.lit-item.is c.loop-lit.invariant c.is_literal.ensures.within

pub returns-clause-within : goal.returns-clause-within
returns-clause-within c = all_taken IsLiteral c.args.lits.now c.loop-lit.lit-index (omega (arith, c.loop-lit-test.false)) c.loop-lit.invariant
