use Rattle.std.proofs.Common.{◌+◌, sym, arith}
use Rattle.ps_simplex.proofs.Ways.{choose_none, one_of, ways_rise}
use Rattle.ps_simplex.proofs.enough.ways_within_limit.Goals as goal

pub loop-chosen-init : goal.loop-chosen-init
loop-chosen-init c = record { ways = sym (choose_none (c.args.worlds + 0)); small = omega arith }

pub returns-then-worlds-gt-MOST_WAYS : goal.returns-then-worlds-gt-MOST_WAYS
returns-then-worlds-gt-MOST_WAYS c = λ h.
    let one = one_of c.args.worlds in
    let rise = ways_rise c.args.worlds 1 c.args.many c.requires.some in
    let more = c.if-worlds-gt-MOST_WAYS.true in
    absurd (omega (arith, h, one, rise, more))

pub returns-then-ways-gt-MOST_WAYS : goal.returns-then-ways-gt-MOST_WAYS
returns-then-ways-gt-MOST_WAYS c = λ h.
    let is = c.next_ways-ways.ensures in
    let rise = ways_rise c.args.worlds (c.loop-chosen.chosen + 1) c.args.many (let l = c.loop-chosen-test.true in omega (arith, l)) in
    let more = c.if-ways-gt-MOST_WAYS.true in
    absurd (omega (arith, h, is, rise, more))
