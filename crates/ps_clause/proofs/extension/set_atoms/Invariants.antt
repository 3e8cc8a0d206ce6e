use Rattle.std.proofs.Common.{◌≡◌, length, take}
use Rattle.ps_clause.specs.Extensions.{world_of, values_of}
use Rattle.ps_clause.proofs.extension.set_atoms.Given as goal

abbrev pub invariant-loop-i : goal.invariant-loop-i
invariant-loop-i l = l.values ≡ world_of (length l.initial.values) (take l.i l.nodes) (values_of l.a)
