use Rattle.ps_answer.proofs.OneItem.{one_spelled}
use Rattle.ps_answer.proofs.Single.{one_answer, report_is_text}
use Rattle.ps_answer.proofs.laws.texts_determine_answers.Goals as goal

pub returns-clause-line : goal.returns-clause-line
returns-clause-line c = one_spelled

pub returns-clause-answer : goal.returns-clause-answer
returns-clause-answer c = one_answer

pub returns-clause-report : goal.returns-clause-report
returns-clause-report c = report_is_text
