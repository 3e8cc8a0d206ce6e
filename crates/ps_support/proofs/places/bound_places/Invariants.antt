use Rattle.std.proofs.Common.{◌≡◌, ◌++◌, ◌+◌, drop}
use Rattle.ps_support.specs.Places.{places_in}
use Rattle.ps_support.proofs.places.bound_places.Given as goal

abbrev pub invariant-loop-i : goal.invariant-loop-i
invariant-loop-i l = l.places ++ places_in (l.i + 1) (drop l.i l.sentences) ≡ places_in 1 l.sentences
