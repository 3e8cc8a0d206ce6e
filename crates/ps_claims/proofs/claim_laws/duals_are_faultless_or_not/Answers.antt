use Rattle.ps_claims.specs.Faults.{start_for}
use Rattle.ps_claims.proofs.Faults.{fault_cases, no_fault}
use Rattle.ps_claims.proofs.claim_laws.duals_are_faultless_or_not.Goals as goal

pub returns-clause-either : goal.returns-clause-either
returns-clause-either c = λ p kind given both value d long. fault_cases p (start_for p kind given both d) value d long

pub returns-clause-never_both : goal.returns-clause-never_both
returns-clause-never_both c = λ p kind given both value d r right. no_fault p (start_for p kind given both d) value d r right
