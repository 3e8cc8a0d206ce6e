use Rattle.ps_frac.proofs.Rounding.{exact_up_by, exact_value, next_up_by, next_value}
use Rattle.ps_frac.proofs.decimal.Decimal.up.Goals as goal

pub returns-then-rest-eq0-clause-rounded : goal.returns-then-rest-eq0-clause-rounded
returns-then-rest-eq0-clause-rounded c =
    exact_up_by c.args.fraction.now c.of_units.result _ _ _ _ _ c.requires.fraction.nonneg c.terms-over.ensures.over c.terms-over.ensures.under
    c.long_division-units.ensures.same c.long_division-units.ensures.rest c.if-rest-eq0.true c.of_units.ensures.units c.of_units.ensures.digits

pub returns-then-rest-eq0-clause-value : goal.returns-then-rest-eq0-clause-value
returns-then-rest-eq0-clause-value c =
    exact_value c.args.fraction.now c.of_units.result _ _ _ _ _ c.requires.fraction.nonneg c.terms-over.ensures.over c.terms-over.ensures.under
    c.long_division-units.ensures.same c.long_division-units.ensures.rest c.if-rest-eq0.true c.of_units.ensures.units c.of_units.ensures.digits

pub returns-clause-rounded : goal.returns-clause-rounded
returns-clause-rounded c =
    next_up_by c.args.fraction.now c.of_units-2.result _ _ _ _ _ c.requires.fraction.nonneg c.terms-over.ensures.over c.terms-over.ensures.under
    c.long_division-units.ensures.same c.long_division-units.ensures.rest c.if-rest-eq0.false c.of_units-2.ensures.units c.of_units-2.ensures.digits

pub returns-clause-value : goal.returns-clause-value
returns-clause-value c =
    next_value c.args.fraction.now c.of_units-2.result _ _ _ _ _ c.requires.fraction.nonneg c.terms-over.ensures.over c.terms-over.ensures.under
    c.long_division-units.ensures.same c.long_division-units.ensures.rest c.if-rest-eq0.false c.of_units-2.ensures.units c.of_units-2.ensures.digits
