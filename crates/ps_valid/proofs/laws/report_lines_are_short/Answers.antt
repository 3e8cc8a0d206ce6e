use Rattle.ps_answer.specs.Answers.{answer_items}
use Rattle.ps_valid.proofs.ShortLines.{short_lines}
use Rattle.ps_valid.proofs.laws.report_lines_are_short.Goals as goal

pub returns : goal.returns
returns c = record { short = λ a within. short_lines (answer_items a) within }
