use Rattle.std.proofs.Common.{◌≡◌, ◌++◌, drop}
use Rattle.ps_support.specs.Examples.{true_from}
use Rattle.ps_support.proofs.example.true_atoms.Given as goal

abbrev pub invariant-loop-atom : goal.invariant-loop-atom
invariant-loop-atom l = l.atoms ++ true_from l.atom (drop l.atom l.values) ≡ true_from 0 l.values
