use Rattle.std.proofs.Common.{◌≡◌, ◌++◌, take}
use Rattle.ps_spoken.specs.Examples.{world_text}
use Rattle.ps_spoken.specs.Listings.{texts_of}
use Rattle.ps_spoken.proofs.examples.write_worlds.Given as goal

abbrev pub invariant-loop-place : goal.invariant-loop-place
invariant-loop-place l = l.out.items ≡ l.fn.out.items ++ texts_of (world_text l.digits l.problem) (take l.place l.worlds)
