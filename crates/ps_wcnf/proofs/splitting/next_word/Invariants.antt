use Rattle.std.proofs.Common.{length}
use Rattle.ps_wcnf.proofs.Cutting.{IsLeft}
use Rattle.ps_wcnf.proofs.splitting.next_word.Given as goal

abbrev pub invariant-loop-part : goal.invariant-loop-part
invariant-loop-part l = IsLeft l.text l.rest

abbrev pub decreases-loop-part : goal.decreases-loop-part
decreases-loop-part l = length l.rest
