use Rattle.std.proofs.Common.{subst, sym}
use Rattle.std.specs.Prelude.{IfOk}
use Rattle.ps_problem.specs.Problems.{Parts}
use Rattle.ps_support.specs.Supports.{IsShownBy, IsSupport}
use Rattle.ps_ask.proofs.details.support_with.Goals as goal

pub support_of-requires-clause-shown : goal.support_of-requires-clause-shown
support_of-requires-clause-shown c =
    subst (λ (p : Parts). IsShownBy p c.args.side c.args.query c.args.value.now c.args.dual.now) (sym c.problem-problem.ensures.is) c.requires.dual.shown

pub returns-clause-true_of : goal.returns-clause-true_of
returns-clause-true_of c = subst (λ (p : Parts). IfOk c.support_of.result (IsSupport p c.args.query c.args.side)) c.problem-problem.ensures.is c.support_of.ensures.rests
