use Rattle.std.proofs.Common.{arith}
use Rattle.ps_query.specs.Parts.{IsPartOf}
use Rattle.ps_query.proofs.Loops.{zip_next}
use Rattle.ps_query.proofs.solving.query_parts.Goals as goal

pub loop-query-preserved : goal.loop-query-preserved
loop-query-preserved c =
    rw c.in_ok-push.ensures.ok
    (zip_next (IsPartOf c.args.limits c.args.problem.now) c.as_slice-query-items.result.now c.loop-query.parts c.loop-query.query-index _ c.in_ok-part_behind.field-0 (omega arith)
    c.loop-query.invariant c.in_ok-part_behind.ensures)
