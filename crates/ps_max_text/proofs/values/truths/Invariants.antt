use Rattle.std.proofs.Common.{◌≡◌, ◌==◌, map, take}
use Rattle.ps_max_text.proofs.values.truths.Given as goal

abbrev pub invariant-loop-b : goal.invariant-loop-b
invariant-loop-b l = l.world ≡ map (λ b. b == 49) (take l.b-index l.word)
