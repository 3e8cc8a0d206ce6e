use Rattle.ps_ask.specs.Rounds.{AreRounds}
use Rattle.ps_ask.proofs.rounds.round.Given as goal

abbrev pub invariant-loop-place : goal.invariant-loop-place
invariant-loop-place g l = AreRounds l.settings l.trials l.rounds
