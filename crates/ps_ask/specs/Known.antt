-- The values that the bounds of a query reach.
use Rattle.std.specs.Prelude.{◌≡◌, Option, length}
use Rattle.ps_meaning.specs.Rational.{Rational}
use Rattle.ps_problem.specs.declared.query.Query.{Query}
use Rattle.ps_problem.specs.Problems.{Parts, bounds_of}
use Rattle.ps_answer.specs.declared.answer.SideAnswer.{SideAnswer}
use Rattle.ps_answer.specs.declared.answer.SideAnswer.TheVariants.{Bound, Open}
use Rattle.ps_answer.specs.declared.answer.QueryAnswer.{QueryAnswer}
use Rattle.ps_answer.specs.declared.answer.Model.{Model}
use Rattle.ps_answer.specs.declared.answer.Verdict.{Verdict}
use Rattle.ps_claims.specs.Answers.{IsRightPart, IsRightVerdict, ShowsConsistent}
use Rattle.ps_claims.specs.Certificates.{model_of}
use Rattle.ps_claims.specs.Printed.{IsPrintedPart, IsPrintedSide}
use Rattle.ps_claims.specs.Validity.{IsValidPart, IsValidSide, query_of}
use Rattle.ps_claims.specs.declared.claim_kind.ClaimKind.{ClaimKind}
use Rattle.ps_valid.specs.Answers.{part_of, side_of, verdict_of}
use Rattle.ps_spoken.specs.declared.reached.Reached.{Reached}
use Rattle.ps_ask.specs.Reached.{IsReachedAsTold}

-- the side is a bound at this value
abbrev pub IsBoundAt : SideAnswer → Rational → Type 0
IsBoundAt (Bound value m d) x = value ≡ x
IsBoundAt (Open c) x = ⊥

-- a distribution that meets each of the problem's bounds
abbrev pub IsModelFor : Parts → Model → Type 0
IsModelFor p m = ShowsConsistent (length p.names) (bounds_of p) (model_of m)

-- the verdict on a problem is right
abbrev pub IsRightVerdictFor : Parts → Verdict → Type 0
IsRightVerdictFor p v = IsRightVerdict (length p.names) (bounds_of p) (verdict_of v)

-- the answer to a query is right for a problem
abbrev pub IsRightFor : Parts → Query → QueryAnswer → Type 0
IsRightFor p q a = IsRightPart (length p.names) (bounds_of p) (query_of p.nodes q) (part_of a)

-- of every problem and query: what is told with the bounds of a right answer is reached where what was told before is
abbrev pub KeepsKnownSides : Option Reached → QueryAnswer → Option Reached → Type 0
KeepsKnownSides old a new = (p : Parts) (q : Query) → IsRightFor p q a → IsReachedAsTold p q old → IsReachedAsTold p q new

-- a side of a query is valid, and can be printed
pub record IsProvedSide (p : Parts) (kind : ClaimKind) (q : Query) (a : SideAnswer) : Type 0 where
  pub valid : IsValidSide p kind q (side_of a)
  pub printed : IsPrintedSide a

-- so is the answer to a query
pub record IsProvedFor (p : Parts) (q : Query) (a : QueryAnswer) : Type 0 where
  pub valid : IsValidPart p q (part_of a)
  pub printed : IsPrintedPart a
