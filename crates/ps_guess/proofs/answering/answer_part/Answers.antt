use Rattle.ps_guess.proofs.answering.answer_part.Goals as goal

pub returns-in-Answered : goal.returns-in-Answered
returns-in-Answered g c = (rw c.in-Answered.is at c.in_ok-part.ensures) c.args.limits

pub run_beside-requires-clause-lower : goal.run_beside-requires-clause-lower
run_beside-requires-clause-lower g c = ((rw c.in-Sides.is at c.in_ok-part.ensures) c.args.limits).0

pub run_beside-requires-clause-upper : goal.run_beside-requires-clause-upper
run_beside-requires-clause-upper g c = ((rw c.in-Sides.is at c.in_ok-part.ensures) c.args.limits).1
