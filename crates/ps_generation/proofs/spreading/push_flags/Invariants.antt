use Rattle.std.proofs.Common.{◌≡◌, ◌++◌, replicate}
use Rattle.ps_generation.proofs.spreading.push_flags.Given as goal

abbrev pub invariant-loop : goal.invariant-loop
invariant-loop l = l.flags ≡ l.fn.flags ++ replicate l.counter l.kept
