use Rattle.ps_ask.specs.Rounds.{AreRounds}
use Rattle.ps_ask.proofs.rounds.make_rounds.Given as goal

abbrev pub invariant-loop-turn : goal.invariant-loop-turn
invariant-loop-turn g l = AreRounds l.settings l.trials l.rounds
