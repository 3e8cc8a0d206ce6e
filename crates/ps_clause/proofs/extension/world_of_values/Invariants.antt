use Rattle.std.proofs.Common.{◌≡◌, take}
use Rattle.ps_clause.proofs.extension.world_of_values.Given as goal

abbrev pub invariant-loop-value : goal.invariant-loop-value
invariant-loop-value l = l.world ≡ take l.value-index l.values
