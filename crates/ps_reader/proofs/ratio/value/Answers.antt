use Rattle.std.proofs.Common.{◌^◌, pos, ◌≤ℤ◌, arith}
use Rattle.ps_reader.proofs.LineFractions.{ratio_read, no_ratio, parts_fit}
use Rattle.ps_reader.proofs.ratio.value.Goals as goal

pub returns-in-None : goal.returns-in-None
returns-in-None c = λ q s. no_ratio c.args.word.now q c.in-None.ensures.none s.0

pub lowest-requires : goal.lowest-requires
lowest-requires c = parts_fit (λ z. pos 0 ≤ℤ z) (2 ^ 90) c.in-Some.over.now c.in-Some.under.now c.amount.result c.positive.result (omega arith) c.amount.ensures c.positive.ensures

pub returns-in-Some : goal.returns-in-Some
returns-in-Some c = ratio_read (λ z. pos 0 ≤ℤ z) (2 ^ 90) c.args.word.now c.in-Some.over.now c.in-Some.under.now c.amount.result c.positive.result c.lowest.result c.in-Some.ensures.found c.amount.ensures c.positive.ensures c.lowest.ensures
