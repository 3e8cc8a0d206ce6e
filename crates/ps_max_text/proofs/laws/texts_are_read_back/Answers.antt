use Rattle.ps_max_text.proofs.OneText.{no_fault, one_answer, one_fault}
use Rattle.ps_max_text.proofs.laws.texts_are_read_back.Goals as goal

pub returns-clause-answer : goal.returns-clause-answer
returns-clause-answer c = one_answer

pub returns-clause-none : goal.returns-clause-none
returns-clause-none c = no_fault

pub returns-clause-one : goal.returns-clause-one
returns-clause-one c = one_fault
