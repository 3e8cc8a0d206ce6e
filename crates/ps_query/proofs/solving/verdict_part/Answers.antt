use Rattle.std.proofs.lemmas.Result.{IfOk-weaker}
use Rattle.ps_query.specs.Parts.{IsOpening, IsVerdictOf}
use Rattle.ps_query.proofs.solving.verdict_part.Goals as goal

pub returns : goal.returns
returns c =
    IfOk-weaker c.begin.result (λ r. IsOpening c.in_ok-run.run' c.begin.new.run r.0 r.1) (λ r. IsVerdictOf c.args.limits c.args.problem.now r.0 r.1)
    (λ r h. h.verdict c.args.limits c.args.problem.now c.in_ok-run.ensures) c.begin.ensures
