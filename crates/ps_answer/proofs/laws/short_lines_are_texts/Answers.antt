use Rattle.ps_answer.proofs.WrittenItems.{short_item, short_text}
use Rattle.ps_answer.proofs.laws.short_lines_are_texts.Goals as goal

pub returns-clause-line : goal.returns-clause-line
returns-clause-line c = short_item

pub returns-clause-answer : goal.returns-clause-answer
returns-clause-answer c = short_text
