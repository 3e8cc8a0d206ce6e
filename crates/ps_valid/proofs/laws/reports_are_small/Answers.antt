use Rattle.ps_valid.proofs.SmallAnswers.{report_small, within_small}
use Rattle.ps_valid.proofs.laws.reports_are_small.Goals as goal

pub returns : goal.returns
returns c = record { answer = within_small; report = report_small }
