use Rattle.ps_problem.proofs.Stated.{bounds-stated, queries-asked}
use Rattle.ps_problem.proofs.laws.numbering_keeps_meaning.Goals as goal

pub returns : goal.returns
returns c = record { bounds = bounds-stated; queries = queries-asked }
