use Rattle.ps_text.proofs.Lawful.{front_lawful}
use Rattle.ps_text.proofs.Sorting.{same_statements, same_questions, sentences_first_lawful}
use Rattle.ps_text.proofs.laws.what_is_read_is_lawful.Goals as goal

pub returns-clause-lawful : goal.returns-clause-lawful
returns-clause-lawful c = front_lawful

pub returns-clause-sorted : goal.returns-clause-sorted
returns-clause-sorted c = sentences_first_lawful

pub returns-clause-sentences : goal.returns-clause-sentences
returns-clause-sentences c = same_statements

pub returns-clause-queries : goal.returns-clause-queries
returns-clause-queries c = same_questions
