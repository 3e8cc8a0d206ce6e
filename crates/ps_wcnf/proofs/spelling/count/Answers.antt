use Rattle.std.proofs.Common.{arith}
use Rattle.ps_wcnf.proofs.Digits.{counted-more}
use Rattle.ps_wcnf.proofs.spelling.count.Goals as goal

pub loop-byte-preserved : goal.loop-byte-preserved
loop-byte-preserved c =
    counted-more c.args.word.now c.loop-byte.byte-index c.loop-byte.value c.one_more_digit-value.result c.loop-byte-test.true c.loop-byte.invariant
    (grind (arith, c.if-not-is_ascii_digit.false, c.is_ascii_digit.ensures)) c.one_more_digit-value.ensures
