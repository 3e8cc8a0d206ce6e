use Rattle.ps_claims.specs.Claims.{Bounded}
use Rattle.ps_claims.specs.Certificates.{model_of, dual_of}
use Rattle.ps_valid.proofs.ClaimsInOrder.{judged_one}
use Rattle.ps_valid.proofs.checking.check_side.Goals as goal

pub returns-in_ok-found-in-Bound : goal.returns-in_ok-found-in-Bound
returns-in_ok-found-in-Bound c =
    rw c.in-Bound.is
    (judged_one c.args.problem.now c.args.claim (Bounded c.args.kind c.args.query.now c.in-Bound.value (model_of c.in-Bound.model) (dual_of c.in-Bound.dual)) c.in_ok-found-in-Bound.found c.answer_to.result
    c.in_ok-found-in-Bound.ensures c.answer_to.ensures)
