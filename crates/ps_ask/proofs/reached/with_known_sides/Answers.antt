use Rattle.ps_ask.proofs.ReachedLaws.{with_sides}
use Rattle.ps_ask.proofs.reached.with_known_sides.Goals as goal

pub returns-in-Bounds : goal.returns-in-Bounds
returns-in-Bounds c =
    let b = c.in-Bounds in
    rw c.in-Bounds.is
    (with_sides b.lower b.upper b.lower_trace b.upper_trace c.args.reached c.with_value.result c.with_value-in-Bounds.result c.bound_of.result c.bound_of-in-Bounds.result
    c.bound_of.ensures.bound c.bound_of.ensures.decimals c.bound_of-in-Bounds.ensures.bound c.bound_of-in-Bounds.ensures.decimals c.with_value.ensures.reached
    c.with_value-in-Bounds.ensures.reached)
