use Rattle.ps_reader.proofs.Cut.{capped_more}
use Rattle.ps_reader.proofs.numeral.value.Goals as goal

pub loop-digit-preserved : goal.loop-digit-preserved
loop-digit-preserved c =
    capped_more c.args.digits.now c.loop-digit.digit-index c.loop-digit.value c.one_more_digit-value.result c.requires c.loop-digit-test.true c.loop-digit.invariant
    c.one_more_digit-value.ensures
