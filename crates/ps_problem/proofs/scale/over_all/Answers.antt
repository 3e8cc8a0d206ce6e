use Rattle.std.proofs.Common.{map, sym, ap, ◌∙◌}
use Rattle.ps_problem.specs.Scales.{lcm_with, scale_within, den_of}
use Rattle.ps_problem.proofs.Scales.{right_stop, rights_some, upper_stop, terms_with}
use Rattle.ps_problem.proofs.scale.over_all.Goals as goal

pub returns-in-None : goal.returns-in-None
returns-in-None c = right_stop c.args.linear.now c.requires (sym c.with_denominator.ensures ∙ c.in-None.is)

pub over_terms-requires-clause-scale : goal.over_terms-requires-clause-scale
over_terms-requires-clause-scale c =
    (rights_some c.args.linear.now c.requires c.in-Some.right (sym c.with_denominator.ensures ∙ c.in-Some.is) c.in-Some-over_upper.rights (sym c.over_upper.ensures ∙ c.in-Some-over_upper.is)).0

pub returns-in-Some-over_upper : goal.returns-in-Some-over_upper
returns-in-Some-over_upper c =
    c.over_terms.ensures
    ∙ ap (λ ts. scale_within (lcm_with c.in-Some-over_upper.rights (map den_of ts))) c.as_slice.ensures
    ∙ terms_with c.args.linear.now c.requires c.in-Some.right (sym c.with_denominator.ensures ∙ c.in-Some.is) c.in-Some-over_upper.rights (sym c.over_upper.ensures ∙ c.in-Some-over_upper.is)

pub returns-in-None-over_upper : goal.returns-in-None-over_upper
returns-in-None-over_upper c = upper_stop c.args.linear.now c.requires c.in-Some.right (sym c.with_denominator.ensures ∙ c.in-Some.is) (sym c.over_upper.ensures ∙ c.in-None-over_upper.is)
