use Rattle.std.proofs.Common.{◌≡◌, ◌++◌, take}
use Rattle.ps_spoken.specs.Examples.{atom_names}
use Rattle.ps_spoken.proofs.examples.write_names.Given as goal

abbrev pub invariant-loop-place : goal.invariant-loop-place
invariant-loop-place l = l.out.items ≡ l.fn.out.items ++ atom_names l.problem (take l.place l.atoms)
