-- The nodes of what is asked are there.
use Rattle.std.proofs.Common.{◌<◌, ◌≢◌, Option, Some, None, IfSome, length}
use Rattle.ps_problem.specs.declared.query.Query.{Query}
use Rattle.ps_problem.specs.Problems.{Parts}
use Rattle.ps_claims.specs.declared.claim_kind.ClaimKind.{ClaimKind}
use Rattle.ps_claims.specs.declared.claim_kind.ClaimKind.TheVariants.{Nothing}
use Rattle.ps_runs.specs.Subjects.{IsAsked, given_in, both_in}

pub given_there : (kind : ClaimKind) (p : Parts) (query : Option Query) → IsAsked kind p query → IfSome (given_in query) (λ g. g < length p.nodes)
given_there kind p None asked = tt
given_there kind p (Some q) asked = asked.given_there

pub both_there : (kind : ClaimKind) (p : Parts) (query : Option Query) → IsAsked kind p query → kind ≢ Nothing → both_in query < length p.nodes
both_there kind p None asked side = absurd (side asked)
both_there kind p (Some q) asked side = asked.both_there
