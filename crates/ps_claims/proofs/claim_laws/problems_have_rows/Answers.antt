use Rattle.ps_claims.proofs.ProblemRows.{problem-rows}
use Rattle.ps_claims.proofs.claim_laws.problems_have_rows.Goals as goal

pub returns : goal.returns
returns c = record { rows = problem-rows }
