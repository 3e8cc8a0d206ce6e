use Rattle.std.proofs.Common.{subst}
use Rattle.ps_problem.specs.Problems.{Parts}
use Rattle.ps_query.specs.Parts.{IsPartOf}
use Rattle.ps_guess.proofs.answering.run_beside.Goals as goal

pub returns-clause-answered : goal.returns-clause-answered
returns-clause-answered c =
    let q = c.args.query in
    let run = subst (λ (x : Parts). IsPartOf c.args.limits x q c.in_ok-run.run') c.problem.ensures.is c.in_ok-run.ensures in
    c.beside_run.ensures.answered c.args.limits c.args.trials.now q run c.requires.lower c.requires.upper
