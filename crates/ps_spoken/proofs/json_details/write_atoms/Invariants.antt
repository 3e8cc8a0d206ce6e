use Rattle.std.proofs.Common.{◌≡◌, ◌++◌, take}
use Rattle.ps_spoken.specs.JsonDetails.{atom_items}
use Rattle.ps_spoken.proofs.json_details.write_atoms.Given as goal

abbrev pub invariant-loop-place : goal.invariant-loop-place
invariant-loop-place l = l.out.items ≡ l.fn.out.items ++ atom_items l.problem (take l.place l.atoms)
