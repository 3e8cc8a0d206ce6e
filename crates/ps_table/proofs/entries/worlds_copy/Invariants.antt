use Rattle.std.proofs.Common.{◌≡◌, take}
use Rattle.ps_table.proofs.entries.worlds_copy.Given as goal

abbrev pub invariant-loop-entries : goal.invariant-loop-entries
invariant-loop-entries l = l.copy ≡ take l.entries-index l.worlds
