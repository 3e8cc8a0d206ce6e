use Rattle.std.proofs.Common.{arith, ap}
use Rattle.std.proofs.lemmas.Int.{ints}
use Rattle.ps_wcnf.specs.Valued.{always}
use Rattle.ps_wcnf.proofs.Placed.{small-sizes}
use Rattle.ps_wcnf.proofs.valued.valued_form.Goals as goal

pub returns-clause-form : goal.returns-clause-form
returns-clause-form c = record {
  clauses = c.in_ok-clauses.ensures.form;
  literals = c.in_ok-clauses.ensures.literals;
  base = omega (arith, ints, c.in_ok-always.ensures.value, ap always c.as_slice.ensures, c.in_ok-always.ensures.low, c.in_ok-always.ensures.high);
}

pub returns-clause-small : goal.returns-clause-small
returns-clause-small c = record {
  within = c.in_ok-clauses.ensures.placed;
  sizes = small-sizes c.args.text.now c.in_ok-clauses.literals c.requires c.in_ok-clauses.ensures.literals;
  low = omega (arith, ints, c.in_ok-always.ensures.low, c.in_ok-always.ensures.high);
  high = omega (arith, ints, c.in_ok-always.ensures.low, c.in_ok-always.ensures.high);
}
