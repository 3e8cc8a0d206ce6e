use Rattle.ps_frac.proofs.Rounding.{down_by, down_value}
use Rattle.ps_frac.proofs.decimal.Decimal.down.Goals as goal

pub returns-clause-rounded : goal.returns-clause-rounded
returns-clause-rounded c =
    down_by c.args.fraction.now c.of_units.result _ _ _ _ _ c.requires.fraction.nonneg c.terms-over.ensures.over c.terms-over.ensures.under
    c.long_division-units.ensures.same c.long_division-units.ensures.rest c.of_units.ensures.units c.of_units.ensures.digits

pub returns-clause-value : goal.returns-clause-value
returns-clause-value c =
    down_value c.args.fraction.now c.of_units.result _ _ _ _ _ c.requires.fraction.nonneg c.terms-over.ensures.over c.terms-over.ensures.under
    c.long_division-units.ensures.same c.long_division-units.ensures.rest c.of_units.ensures.units c.of_units.ensures.digits
