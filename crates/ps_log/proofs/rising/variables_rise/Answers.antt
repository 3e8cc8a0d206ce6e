use Rattle.std.proofs.Common.{option_copied, subst}
use Rattle.ps_log.specs.GoalNumbers.{TellsLess}
use Rattle.ps_log.proofs.Comparing.{RisesSoFar, rises-more, rises-last, rises-all}
use Rattle.ps_log.proofs.rising.variables_rise.Goals as goal

pub loop-rest-preserved : goal.loop-rest-preserved
loop-rest-preserved c =
    rises-more c.args.text.now c.loop-rest.last.now c.in-Some.bytes.now c.in-Some-next_variable.variable.now (option_copied c.in-Some-next_variable.after)
    (subst (λ r. RisesSoFar c.args.text.now c.loop-rest.last.now (option_copied r)) c.in-Some.is c.loop-rest.invariant)
    c.in-Some-next_variable.ensures.found
    (subst (λ b. TellsLess c.loop-rest.last.now c.in-Some-next_variable.variable.now b) c.if-not-is_less.false c.is_less.ensures)

pub returns-in-None : goal.returns-in-None
returns-in-None c =
    rises-last c.args.text.now c.loop-rest.last.now c.in-Some.bytes.now
    (subst (λ r. RisesSoFar c.args.text.now c.loop-rest.last.now (option_copied r)) c.in-Some.is c.loop-rest.invariant)
    c.in-None.ensures.none

pub returns : goal.returns
returns c = rises-all c.args.text.now c.loop-rest.last.now (subst (λ r. RisesSoFar c.args.text.now c.loop-rest.last.now (option_copied r)) c.in_default.is c.loop-rest.invariant)
