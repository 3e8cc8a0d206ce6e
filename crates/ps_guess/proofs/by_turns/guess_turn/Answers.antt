use Rattle.ps_guess.proofs.by_turns.guess_turn.Goals as goal

pub returns-in_ok-known-in-Sides-clause-known : goal.returns-in_ok-known-in-Sides-clause-known
returns-in_ok-known-in-Sides-clause-known g c = c.in_ok-known-in-Sides.ensures.known c.args.limits
