use Rattle.std.specs.Prelude.{⊤}
use Rattle.std.proofs.Common.{◌^◌, ◌-◌, arith}
use Rattle.ps_reader.proofs.LineFractions.{ratio_read, no_ratio, parts_fit, any_over, no_sign}
use Rattle.ps_reader.proofs.ratio.operand.Goals as goal

pub returns-in-None : goal.returns-in-None
returns-in-None c = λ q s. no_ratio c.args.word.now q c.in-None.ensures.none s.0

pub lowest-requires : goal.lowest-requires
lowest-requires c =
    parts_fit (λ z. ⊤) (2 ^ 127 - 1) c.in-Some.over.now c.in-Some.under.now c.number_up_to.result c.positive.result (omega arith)
    (any_over (2 ^ 127 - 1) c.in-Some.over.now c.number_up_to.result c.number_up_to.ensures) c.positive.ensures

pub returns-in-Some : goal.returns-in-Some
returns-in-Some c =
    no_sign (2 ^ 127 - 1) c.args.word.now c.lowest.result
    (ratio_read (λ z. ⊤) (2 ^ 127 - 1) c.args.word.now c.in-Some.over.now c.in-Some.under.now c.number_up_to.result c.positive.result c.lowest.result c.in-Some.ensures.found
    (any_over (2 ^ 127 - 1) c.in-Some.over.now c.number_up_to.result c.number_up_to.ensures) c.positive.ensures c.lowest.ensures)
