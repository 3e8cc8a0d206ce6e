use Rattle.std.proofs.lemmas.Result.{IfOk-weaker}
use Rattle.ps_check.specs.Judging as judging
use Rattle.ps_check.specs.Reports.{HasTakenOn}
use Rattle.ps_check.specs.declared.report.Report.TheVariants.{Judging}
use Rattle.ps_check.proofs.ReportsSoFar.{judging_on}
use Rattle.ps_check.proofs.report.Report.take.Goals as goal

pub returns-in-Judging-clause-taken : goal.returns-in-Judging-clause-taken
returns-in-Judging-clause-taken c =
    IfOk-weaker c.take.result (λ _. judging.HasTakenOn c.in-Judging.judge c.args.piece.now c.take.new.self)
    (λ _. HasTakenOn c.args.self.now c.args.piece.now (Judging c.take.new.self))
    (λ _ h. judging_on c.args.self.now c.in-Judging.judge c.take.new.self c.args.piece.now c.in-Judging.is h) c.take.ensures.taken
