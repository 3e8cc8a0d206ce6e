-- What a dual is to show: that the evidence allows nothing, or that a value bounds a query's probability.
use Rattle.std.specs.Prelude.{ℕ, Option}
use Rattle.ps_problem.specs.Problems.{Parts}
use Rattle.ps_pb.specs.Steps.{Known}
use Rattle.ps_claims.specs.declared.claim_kind.ClaimKind.{ClaimKind}
use Rattle.ps_claims.specs.declared.claim_kind.ClaimKind.TheVariants.{Nothing, Lower, Upper}
use Rattle.ps_claims.specs.Duals.{Dual}
use Rattle.ps_claims.specs.Faults.{start_for}

-- what a dual is to show: that nothing is allowed with this evidence, or that a value is a lower or an upper bound of a query
-- with this evidence and this node for formula and evidence together
pub data Aim : Type 0 where
  NothingAllowed : (given : Option ℕ) → Aim
  LowerBound : (given : Option ℕ) (both : ℕ) → Aim
  UpperBound : (given : Option ℕ) (both : ℕ) → Aim

-- what a claim of this kind with this evidence is to show; the node is of no account where it isn't on a query
abbrev pub aim_of : ClaimKind → Option ℕ → ℕ → Aim
aim_of Nothing given both = NothingAllowed given
aim_of Lower given both = LowerBound given both
aim_of Upper given both = UpperBound given both

-- what is known before the first step of a dual that is to show this
abbrev pub start_of : Parts → Aim → Dual → Known
start_of p (NothingAllowed given) d = start_for p Nothing given 0 d
start_of p (LowerBound given both) d = start_for p Lower given both d
start_of p (UpperBound given both) d = start_for p Upper given both d
