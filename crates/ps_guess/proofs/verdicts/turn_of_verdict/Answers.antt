use Rattle.ps_guess.proofs.verdicts.turn_of_verdict.Goals as goal

pub returns-in-Some-clause-told : goal.returns-in-Some-clause-told
returns-in-Some-clause-told g c = (rw c.in-Some.is at c.in_ok-found.ensures) c.args.limits
