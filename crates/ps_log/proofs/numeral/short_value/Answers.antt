use Rattle.std.proofs.Common.{arith, ◌∙◌, ap, ◌+◌, ◌*◌}
use Rattle.ps_log.proofs.Spelled.{few_digits, one_more}
use Rattle.ps_log.proofs.numeral.short_value.Goals as goal

pub overflow_mul-value : goal.overflow_mul-value
overflow_mul-value c =
    omega (arith, c.loop-digit.invariant, few_digits c.args.digits.now c.loop-digit.digit-index c.requires.digits c.requires.short c.loop-digit-test.true)

pub overflow_add-value : goal.overflow_add-value
overflow_add-value c =
    omega (arith, c.from.ensures, c.type_inv.digits c.loop-digit.digit-index, c.loop-digit.invariant, few_digits c.args.digits.now c.loop-digit.digit-index c.requires.digits c.requires.short c.loop-digit-test.true)

pub loop-digit-preserved : goal.loop-digit-preserved
loop-digit-preserved c =
    ap (λ d. 10 * c.loop-digit.value + d) c.from.ensures
    ∙ one_more c.args.digits.now c.loop-digit.digit-index c.loop-digit.value c.requires.digits c.loop-digit-test.true c.loop-digit.invariant
