use Rattle.std.proofs.Common.{◌≡◌, ◌≤◌, ◌+◌, ◌*◌, ℕ, suc, ◌-◌, ◌/◌, sym, ◌∙◌, arith}
use Rattle.ps_spoken.proofs.Steps.{grows}
use Rattle.ps_spoken.proofs.digits.shown_digits.Goals as goal

-- src/digits.rt:53:5
pub loop-preserved : goal.loop-preserved
loop-preserved c =
    let before = c.loop.invariant in
    let times = (18 - c.args.digits) / 3 in
    let left = times - (c.loop.counter + 1) in
    let one : (times - c.loop.counter) ≡ suc left = omega arith in
    let step = grows (times - c.loop.counter) left c.loop.shown c.args.lower.now c.args.upper.now one (sym c.if-not-hide_distance.ensures) in
    (omega arith, omega arith, sym step ∙ before.2)
