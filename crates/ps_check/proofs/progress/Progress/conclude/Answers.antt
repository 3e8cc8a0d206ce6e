use Rattle.std.proofs.Common.{subst}
use Rattle.ps_check.specs.Progress.{HasEnded}
use Rattle.ps_check.proofs.Weighed.{concluded_model}
use Rattle.ps_check.proofs.progress.Progress.conclude.Goals as goal

pub returns-in_ok-found-in-Modelling : goal.returns-in_ok-found-in-Modelling
returns-in_ok-found-in-Modelling c = concluded_model c.args.problem.now c.in-Modelling.subject c.in-Modelling.model c.in_ok-found-in-Modelling.found c.args.self.now c.end.new.self c.in-Modelling.is c.in_ok-found-in-Modelling.ensures
    (subst (λ claim. HasEnded claim c.in_ok-found-in-Modelling.found c.args.self.now c.end.new.self) c.claim-claim.ensures c.end.ensures)
