use Rattle.ps_wcnf.proofs.Cutting.{LacksBlanks}
use Rattle.ps_wcnf.proofs.splitting.split_part.Given as goal

abbrev pub invariant-loop-i : goal.invariant-loop-i
invariant-loop-i l = LacksBlanks l.text l.i
