use Rattle.std.proofs.Common.{◌≡◌, length}
use Rattle.ps_climb.proofs.draw.drawn_world.Given as goal

abbrev pub invariant-loop : goal.invariant-loop
invariant-loop l = length l.world ≡ l.counter
