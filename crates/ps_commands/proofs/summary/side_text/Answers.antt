use Rattle.std.proofs.Common.{◌∙◌, arith}
use Rattle.std.specs.Int.{w128}
use Rattle.std.proofs.lemmas.Int.{to_z-of_z, fits_signed_from_abs}
use Rattle.ps_commands.proofs.SideText.{bound_text, fits_under}
use Rattle.ps_commands.proofs.summary.side_text.Goals as goal

pub returns-in-Bound : goal.returns-in-Bound
returns-in-Bound c =
    let small = c.numerator.ensures.small in
    bound_text c.fraction_text.result c.args.side.now c.in-Bound.value c.in-Bound.model c.in-Bound.dual _ _ c.in-Bound.is
    (to_z-of_z w128 c.numerator.result (fits_signed_from_abs w128 c.numerator.result (omega (arith, small))) ∙ c.numerator.ensures.value)
    (to_z-of_z w128 c.denominator.result (fits_under c.denominator.result _ c.denominator.ensures.value c.denominator.type_inv) ∙ c.denominator.ensures.value) c.fraction_text.ensures
