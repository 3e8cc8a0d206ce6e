use Rattle.std.proofs.Common.{◌≡◌, suc, ◌+◌, arith}
use Rattle.ps_whole.proofs.FirstRows.{homes_are}
use Rattle.ps_whole.proofs.rows.Whole.of_homes.Goals as goal

pub returns : goal.returns
returns c =
    let n = c.args.rows in
    let e : 1 + n ≡ suc n = omega arith in
    record { homes = homes_are n (1 + n) c.in_ok-numbers.numbers.items c.in_ok-unders.unders.items c.in_ok-numbers.ensures.homes c.in_ok-unders.ensures.ones e }
