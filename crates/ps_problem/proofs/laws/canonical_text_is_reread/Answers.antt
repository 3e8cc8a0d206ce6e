use Rattle.ps_problem.proofs.Reread.{reread}
use Rattle.ps_problem.proofs.laws.canonical_text_is_reread.Goals as goal

pub returns : goal.returns
returns c = reread
