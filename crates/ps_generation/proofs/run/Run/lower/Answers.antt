use Rattle.ps_generation.proofs.run.Run.lower.Goals as goal

pub returns-clause-answer : goal.returns-clause-answer
returns-clause-answer c = c.side.ensures.answer
