use Rattle.std.proofs.Common.{map, sym, ap, ◌∙◌}
use Rattle.ps_problem.specs.Scales.{sizes_at, coefficient_of}
use Rattle.ps_problem.proofs.Scales.{past_scale, scale_small, right_wide, also_wide, all_small}
use Rattle.ps_problem.proofs.scale.small_scale.Goals as goal

pub returns-in-None : goal.returns-in-None
returns-in-None c = past_scale c.args.linear.now (sym c.over_all.ensures ∙ c.in-None.is)

pub returns-then-is_wide : goal.returns-then-is_wide
returns-then-is_wide c =
    right_wide c.args.linear.now c.in-Some.scale c.sizes-sum.result (sym c.over_all.ensures ∙ c.in-Some.is)
    (c.sizes-sum.ensures.value ∙ ap (λ ts. sizes_at c.in-Some.scale (map coefficient_of ts)) c.as_slice.ensures) (sym c.is_wide.ensures ∙ c.if-is_wide.true)

pub returns-then-is_upper_wide : goal.returns-then-is_upper_wide
returns-then-is_upper_wide c =
    also_wide c.args.linear.now c.in-Some.scale c.sizes-sum.result (sym c.over_all.ensures ∙ c.in-Some.is)
    (c.sizes-sum.ensures.value ∙ ap (λ ts. sizes_at c.in-Some.scale (map coefficient_of ts)) c.as_slice.ensures) (sym c.is_wide.ensures ∙ c.if-is_wide.false)
    (sym c.is_upper_wide.ensures ∙ c.if-is_upper_wide.true)

pub returns : goal.returns
returns c =
    all_small c.args.linear.now c.in-Some.scale c.sizes-sum.result (sym c.over_all.ensures ∙ c.in-Some.is)
    (c.sizes-sum.ensures.value ∙ ap (λ ts. sizes_at c.in-Some.scale (map coefficient_of ts)) c.as_slice.ensures) (sym c.is_wide.ensures ∙ c.if-is_wide.false)
    (sym c.is_upper_wide.ensures ∙ c.if-is_upper_wide.false)
