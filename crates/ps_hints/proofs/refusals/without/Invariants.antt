use Rattle.std.proofs.Common.{take}
use Rattle.ps_hints.specs.Refusals.{AreBlanked}
use Rattle.ps_hints.proofs.refusals.without.Given as goal

abbrev pub invariant-loop-offset : goal.invariant-loop-offset
invariant-loop-offset l = AreBlanked (take l.offset l.text) l.left.items
