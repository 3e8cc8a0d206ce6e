use Rattle.ps_answer.proofs.WrittenItems.{written_item, written_report}
use Rattle.ps_answer.proofs.laws.written_lines_are_lines.Goals as goal

pub returns-clause-line : goal.returns-clause-line
returns-clause-line c = written_item

pub returns-clause-report : goal.returns-clause-report
returns-clause-report c = written_report
