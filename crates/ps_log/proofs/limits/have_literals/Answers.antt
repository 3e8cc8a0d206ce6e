use Rattle.std.proofs.Common.{arith}
use Rattle.ps_log.specs.GoalNumbers.{HasLiteral}
use Rattle.ps_log.proofs.Within.{all_taken, one_more}
use Rattle.ps_log.proofs.limits.have_literals.Goals as goal

pub loop-term-preserved : goal.loop-term-preserved
loop-term-preserved c =
    one_more HasLiteral c.args.terms.now c.loop-term.term-index c.term-item.result c.loop-term-test.true c.term-item.is c.loop-term.invariant c.is_literal.ensures.within

pub returns-clause-within : goal.returns-clause-within
returns-clause-within c = all_taken HasLiteral c.args.terms.now c.loop-term.term-index (omega (arith, c.loop-term-test.false)) c.loop-term.invariant
