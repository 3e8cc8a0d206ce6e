use Rattle.std.proofs.Common.{◌≡◌, None, replicate}
use Rattle.ps_ask.proofs.rounds.Rounds.new.Given as goal

abbrev pub invariant-loop : goal.invariant-loop
invariant-loop l = l.pendings ≡ replicate l.counter None
