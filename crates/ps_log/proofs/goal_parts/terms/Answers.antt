use Rattle.std.proofs.Common.{true≢false, sym}
use Rattle.ps_log.proofs.GoalShapes.{no-literal}
use Rattle.ps_log.proofs.goal_parts.terms.Goals as goal

pub returns-in-None : goal.returns-in-None
returns-in-None c =
    no-literal c.args.numbers.now c.loop-rest.rest.now c.loop-rest.terms c.loop-rest.invariant.same c.in-len2-up.len_at_least (λ l. true≢false (sym (c.in-None.ensures.exact.1 l)))
