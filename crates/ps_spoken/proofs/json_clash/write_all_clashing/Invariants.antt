use Rattle.std.proofs.Common.{◌≡◌, ◌++◌, take}
use Rattle.ps_spoken.specs.JsonClashes.{clash_items}
use Rattle.ps_spoken.proofs.json_clash.write_all_clashing.Given as goal

abbrev pub invariant-loop-place : goal.invariant-loop-place
invariant-loop-place l = l.out.items ≡ l.fn.out.items ++ clash_items l.problem l.lines (take l.place l.all)
