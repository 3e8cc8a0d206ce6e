use Rattle.std.proofs.Common.{◌≡◌, take}
use Rattle.ps_table.proofs.pool.Pool.copy.Given as goal

abbrev pub invariant-loop-world : goal.invariant-loop-world
invariant-loop-world l = l.copy ≡ take l.world-index l.self
