use Rattle.std.proofs.Common.{◌≡◌, ◌++◌, take}
use Rattle.ps_spoken.specs.Quiet.{parts_values}
use Rattle.ps_spoken.proofs.quiet.queries.Given as goal

abbrev pub invariant-loop-part : goal.invariant-loop-part
invariant-loop-part l = l.out.items ≡ l.fn.out.items ++ parts_values l.digits (take l.part-index l.parts)
