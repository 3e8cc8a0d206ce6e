use Rattle.std.proofs.Common.{arith}
use Rattle.ps_query.proofs.Loops.{zip_next}
use Rattle.ps_guess.specs.Solutions.{IsAnsweredPart}
use Rattle.ps_guess.proofs.answering.all_parts.Goals as goal

pub loop-query-preserved : goal.loop-query-preserved
loop-query-preserved g c =
    rw c.in_ok-push.ensures.ok
    (zip_next (IsAnsweredPart c.args.limits c.args.trials.now) c.as_slice-query-items.result.now c.loop-query.parts c.loop-query.query-index _ c.in_ok-answer_part.field-0 (omega arith)
    c.loop-query.invariant c.in_ok-answer_part.ensures)
