use Rattle.std.proofs.Common.{◌≡◌, ◌++◌, take}
use Rattle.ps_spoken.specs.Unused.{unused_items}
use Rattle.ps_spoken.proofs.unused.write_items.Given as goal

abbrev pub invariant-loop-place : goal.invariant-loop-place
invariant-loop-place l = l.out.items ≡ l.fn.out.items ++ unused_items l.problem l.lines (take l.place l.sentences)
