use Rattle.ps_answer.proofs.Dues.{answer_due}
use Rattle.ps_answer.proofs.Single.{complete_is_report}
use Rattle.ps_answer.proofs.laws.due_lines_are_answers.Goals as goal

pub returns-clause-due : goal.returns-clause-due
returns-clause-due c = answer_due

pub returns-clause-answer : goal.returns-clause-answer
returns-clause-answer c = complete_is_report
