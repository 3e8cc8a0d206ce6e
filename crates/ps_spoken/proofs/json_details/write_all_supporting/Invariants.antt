use Rattle.std.proofs.Common.{◌≡◌, ◌++◌, take}
use Rattle.ps_spoken.specs.JsonDetails.{support_items}
use Rattle.ps_spoken.proofs.json_details.write_all_supporting.Given as goal

abbrev pub invariant-loop-place : goal.invariant-loop-place
invariant-loop-place l = l.out.items ≡ l.fn.out.items ++ support_items l.problem (take l.place l.all)
