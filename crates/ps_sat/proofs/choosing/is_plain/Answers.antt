use Rattle.std.proofs.Common.{◌∙◌}
use Rattle.ps_sat.proofs.Chosen.{plain-of}
use Rattle.ps_sat.proofs.choosing.is_plain.Goals as goal

pub returns-then-has_degree_one : goal.returns-then-has_degree_one
returns-then-has_degree_one c = λ h.
    plain-of c.args.c.now c.as_slice.result.now (c.as_slice.ensures ∙ c.terms.ensures.value) (c.has_degree_one.ensures.0 c.if-has_degree_one.true) (c.are_ones.ensures.0 h)
