use Rattle.std.proofs.Common.{◌∙◌}
use Rattle.ps_query.proofs.solving.bounds_behind.Goals as goal

pub returns : goal.returns
returns c = record {
  bounds = c.in_ok-bounds.ensures.bounds;
  printed = c.in_ok-bounds.ensures.printed;
  behind = c.in_ok-trace_copy.ensures ∙ c.as_slice.ensures;
}
