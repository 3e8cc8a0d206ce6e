use Rattle.ps_max_text.proofs.ShortLines.{lines_short}
use Rattle.ps_max_text.proofs.laws.answers_are_short.Goals as goal

pub returns : goal.returns
returns c = lines_short
