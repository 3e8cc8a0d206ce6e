use Rattle.std.proofs.Common.{◌≡◌, map, take}
use Rattle.ps_support.specs.Examples.{likely_of}
use Rattle.ps_support.proofs.example.all_likely.Given as goal

abbrev pub invariant-loop-weighted : goal.invariant-loop-weighted
invariant-loop-weighted l = l.worlds.items ≡ map (likely_of l.model.total) (take l.weighted-index l.all)
