use Rattle.std.proofs.Common.{subst, sym}
use Rattle.ps_problem.specs.Problems.{Parts}
use Rattle.ps_ask.specs.Known.{IsModelFor, IsRightFor}
use Rattle.ps_ask.proofs.details.details_of.Goals as goal

pub reached_of-requires-clause-model : goal.reached_of-requires-clause-model
reached_of-requires-clause-model g c = subst (λ (p : Parts). IsModelFor p c.args.model.now) (sym c.problem.ensures.is) c.requires.model

pub reached_of-requires-clause-right : goal.reached_of-requires-clause-right
reached_of-requires-clause-right g c = subst (λ (p : Parts). IsRightFor p c.args.query c.args.answer.now) (sym c.problem.ensures.is) c.requires.right
