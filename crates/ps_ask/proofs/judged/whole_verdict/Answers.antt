use Rattle.ps_ask.proofs.judged.whole_verdict.Goals as goal

pub returns-in-Some : goal.returns-in-Some
returns-in-Some g c = rw c.in-Some.is at c.in_ok-found.ensures.told
