use Rattle.ps_guess.proofs.KnownLaws.{keeps_still, shows_none}
use Rattle.ps_guess.proofs.by_turns.turn_of_sides.Goals as goal

pub returns-in-Some-clause-known : goal.returns-in-Some-clause-known
returns-in-Some-clause-known g c = λ limits. c.found_impossible.ensures.answered limits c.args.trials.now c.args.query (rw c.in-Some.is at c.in_ok-dual.ensures)

pub returns-clause-known : goal.returns-clause-known
returns-clause-known g c = λ limits. c.known_by.ensures.known limits c.args.trials.now c.args.query c.in_ok-least.ensures.side c.in_ok-most.ensures.side

pub returns-in-Some-clause-kept : goal.returns-in-Some-clause-kept
returns-in-Some-clause-kept g c = shows_none c.args.lower c.args.upper _ _ c.found_impossible.ensures.excluded

pub returns-clause-kept : goal.returns-clause-kept
returns-clause-kept g c =
    keeps_still c.args.lower c.args.upper c.in_ok-least.least c.in_ok-most.most c.known_by.result c.in_ok-least.ensures.kept c.in_ok-most.ensures.kept
    c.known_by.ensures.kept
