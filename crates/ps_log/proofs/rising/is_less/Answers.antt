use Rattle.std.proofs.Common.{arith}
use Rattle.ps_log.proofs.Comparing.{by-length, by-digit}
use Rattle.ps_log.proofs.rising.is_less.Goals as goal

pub returns-then-a-b : goal.returns-then-a-b
returns-then-a-b c = by-length c.args.a.now c.args.b.now (λ e. omega (arith, e, c.if-a-b.true))

pub returns-then-a-i : goal.returns-then-a-i
returns-then-a-i c =
    by-digit c.args.a.now c.args.b.now c.loop-i.i c.loop-i.invariant c.loop-i-test.true (omega (arith, c.if-a-b.false)) (λ e. omega (arith, e, c.if-a-i.true))
