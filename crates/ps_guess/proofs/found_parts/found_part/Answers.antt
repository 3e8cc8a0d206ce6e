use Rattle.ps_guess.proofs.found_parts.found_part.Goals as goal

pub returns-in-Some : goal.returns-in-Some
returns-in-Some g c = λ limits. c.found_impossible.ensures.answered limits c.args.trials.now c.args.query (rw c.in-Some.is at c.in_ok-dual.ensures)

pub returns : goal.returns
returns g c = λ limits. c.known_by.ensures.known limits c.args.trials.now c.args.query c.in_ok-lower.ensures c.in_ok-upper.ensures
