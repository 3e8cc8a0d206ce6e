use Rattle.std.proofs.Common.{sym, ◌∙◌}
use Rattle.ps_wcnf.proofs.Cutting.{part-found, part-none}
use Rattle.ps_wcnf.proofs.splitting.split_part.Goals as goal

pub returns-then-is_blank-clause-found : goal.returns-then-is_blank-clause-found
returns-then-is_blank-clause-found c = part-found c.args.text.now c.loop-i.i 0 c.loop-i-test.true c.loop-i.invariant (sym c.is_blank.ensures ∙ c.if-is_blank.true)

pub returns-clause-none : goal.returns-clause-none
returns-clause-none c = part-none c.args.text.now c.loop-i.i c.loop-i-test.false c.loop-i.invariant
