use Rattle.std.proofs.Common.{◌≡◌, pos, arith}
use Rattle.std.proofs.lemmas.Int.{ints}
use Rattle.ps_whole.proofs.Added.{no_sum}
use Rattle.ps_whole.proofs.sums.WholeSum.plus.Goals as goal

pub returns-then-number-eq0 : goal.returns-then-number-eq0
returns-then-number-eq0 c =
    let zero : c.args.number ≡ pos 0 = omega (arith, ints) in
    record { sum = no_sum c.args.self.now c.args.number c.args.under c.requires.small zero }
