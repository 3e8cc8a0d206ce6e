use Rattle.std.proofs.Common.{subst, inr}
use Rattle.ps_problem.specs.Problems.{Parts}
use Rattle.ps_runs.specs.declared.limits.Limits.{Limits}
use Rattle.ps_query.specs.Parts.{IsPartOf}
use Rattle.ps_guess.proofs.timed.known_at.Goals as goal

pub returns-clause-known : goal.returns-clause-known
returns-clause-known c =
    let q = c.args.query in
    let own = c.limits_at-own.result in
    let run = subst (λ (x : Parts). IsPartOf own x q c.in_ok-run.run') c.problem.ensures.is c.in_ok-run.ensures in
    c.known_behind.ensures.known c.args.limits own c.args.trials.now q run c.requires.lower c.requires.upper

pub returns-clause-taken : goal.returns-clause-taken
returns-clause-taken c =
    let q = c.args.query in
    let own = c.limits_at-own.result in
    let run = subst (λ (x : Parts). IsPartOf own x q c.in_ok-run.run') c.problem.ensures.is c.in_ok-run.ensures in
    inr (record {
      run = c.in_ok-run.run';
      led = subst (λ (l : Limits). IsPartOf l c.args.trials.now q c.in_ok-run.run') c.limits_at-own.ensures.is run;
      taken = c.known_behind.ensures.taken;
    })
