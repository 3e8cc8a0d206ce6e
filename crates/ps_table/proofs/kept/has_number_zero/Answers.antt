use Rattle.std.proofs.Common.{◌≡◌, pos, sym, ◌∙◌, arith}
use Rattle.std.proofs.lemmas.Int.{ints}
use Rattle.ps_table.proofs.KeptCells.{whole_zero}
use Rattle.ps_table.proofs.kept.has_number_zero.Goals as goal

pub returns-then-number-eq0 : goal.returns-then-number-eq0
returns-then-number-eq0 c =
    let z : c.number.result ≡ pos 0 = omega (arith, ints) in
    record { zero = λ _. whole_zero c.args.whole.now c.args.row c.args.column (sym c.number.ensures.value ∙ z) }
