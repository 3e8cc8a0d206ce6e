use Rattle.std.proofs.Common.{arith, ◌≤◌, unsigned_abs, ℤ, rules}
use Rattle.ps_log.proofs.Within.{all_taken, one_more}
use Rattle.ps_wcnf.proofs.checks.check_literals.Goals as goal

pub loop-lit-preserved : goal.loop-lit-preserved
loop-lit-preserved c =
    one_more (λ (l : ℤ). 1 ≤ unsigned_abs l) c.args.lits.now c.loop-lit.lit-index c.lit-item.result c.loop-lit-test.true c.lit-item.is c.loop-lit.invariant (search rules)

pub returns : goal.returns
returns c = all_taken (λ (l : ℤ). 1 ≤ unsigned_abs l) c.args.lits.now c.loop-lit.lit-index (omega (arith, c.loop-lit-test.false)) c.loop-lit.invariant
