use Rattle.std.proofs.lemmas.Result.{IfOk-weaker}
use Rattle.ps_check.specs.Reports.{IsJudging, HasBegun}
use Rattle.ps_check.proofs.ReportsSoFar.{problem_known, refusal_known}
use Rattle.ps_check.proofs.report.Report.begin.Goals as goal

pub returns-in-Ok-clause-begun : goal.returns-in-Ok-clause-begun
returns-in-Ok-clause-begun c =
    IfOk-weaker c.judging.result (IsJudging c.in-Ok.problem c.args.rest.now) (HasBegun c.args.front c.args.rest.now)
    (λ r h. problem_known c.args.front c.in-Ok.problem c.args.rest.now r c.in-Ok.ensures.found c.in-Ok.ensures.only c.in-Ok.ensures.told h) c.judging.ensures.judged

pub returns-in-Err-At-clause-begun : goal.returns-in-Err-At-clause-begun
returns-in-Err-At-clause-begun c =
    rw (c.in-Err-At.kind-is, c.in-Err-At.line-is, c.in-Err-At.column-is)
    (refusal_known c.args.front c.in-Err-At.field-0 c.in-Err-At.kind c.in-Err-At.line c.in-Err-At.column c.args.rest.now c.in-Err-At.field-0-is
    c.in-Err-At.ensures.found c.in-Err-At.ensures.only c.in-Err-At.ensures.told)
