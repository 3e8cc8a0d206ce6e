use Rattle.std.proofs.Common.{◌≡◌, true}
use Rattle.ps_guess.specs.declared.turns.TheConstants.{MOST_TURNS}
use Rattle.ps_guess.proofs.verdicts.verdict_in_time.Given as goal

abbrev pub invariant-loop-turn : goal.invariant-loop-turn
invariant-loop-turn g l = l.turn ≡ MOST_TURNS → g.W.Watch.has_refused l.timed.watch.now ≡ true
