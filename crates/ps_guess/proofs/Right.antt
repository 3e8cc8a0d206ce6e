-- Claims that are valid are right, each by itself.
use Rattle.std.proofs.Common.{◌≡◌, ℕ, ◌<◌, Option, None, length, refl}
use Rattle.std.specs.Option.{IfSome}
use Rattle.ps_meaning.specs.Formula.{Truth}
use Rattle.ps_meaning.specs.declared.side.Side.TheVariants.{AtLeast, AtMost}
use Rattle.ps_meaning.proofs.Weights.{total-positive}
use Rattle.ps_problem.specs.declared.query.Query as stored
use Rattle.ps_problem.specs.Problems.{Parts, AreParts, bounds_of, given_at, HasNodes}
use Rattle.ps_problem.specs.Rows.{rows_in}
use Rattle.ps_problem.proofs.BoundRows.{are-rows}
use Rattle.ps_claims.specs.Queries.{Query, IsInconsistent, IsImpossible}
use Rattle.ps_claims.specs.Answers.{Verdict, Consistent, Inconsistent, OpenVerdict, SideAnswer, Value, OpenSide, QueryAnswer, Interval, Impossible, OpenQuery, IsRightVerdict, IsRightSide, IsRightPart}
use Rattle.ps_claims.specs.declared.claim_kind.ClaimKind.TheVariants.{Nothing, Lower, Upper}
use Rattle.ps_claims.specs.Duals.{Dual, combination, IsNeverAbove}
use Rattle.ps_claims.specs.Goals.{combination_of}
use Rattle.ps_claims.specs.Rows.{problem_rows}
use Rattle.ps_claims.specs.Validity.{query_of, IsValidVerdict, IsValidSide, IsValidPart, ShowsNothing}
use Rattle.ps_claims.proofs.Duality.{shows_nothing, shows_lower, shows_upper}
use Rattle.ps_claims.proofs.NodeSums.{value-nothing, value-combination}
use Rattle.ps_claims.proofs.ProblemRows.{problem-rows}
use Rattle.ps_claims.proofs.Refutations.{refuted-least}
use Rattle.ps_claims.proofs.Valid.{never_above}

nothing-above : (p : Parts) (given : Option ℕ) (q : Query) (d : Dual) → AreParts p → IfSome given (λ g. g < length p.nodes) → q.evidence ≡ given_at p.nodes given
    → ShowsNothing p given d → IsNeverAbove (length p.names) (combination Nothing (problem_rows p) q d)
nothing-above p given q d are there is shows = record {
  at = λ w long.
      rw (← value-combination Nothing p.nodes w given 0 (rows_in p.sentences) q d (are-rows p.nodes p.sentences are.bounds) (value-nothing p.nodes w given 0 q d there is))
      (refuted-least (length p.nodes) p.nodes w (combination_of Nothing given 0 (rows_in p.sentences) d) d.steps are.nodes shows.refuted.steps);
}

right_nothing : (p : Parts) (given : Option ℕ) (d : Dual) → AreParts p → IfSome given (λ g. g < length p.nodes) → ShowsNothing p given d
    → IsImpossible (length p.names) (bounds_of p) (given_at p.nodes given)
right_nothing p given d are there shows =
    let q : Query = record { formula = Truth; evidence = given_at p.nodes given } in
    shows_nothing (length p.names) (bounds_of p) (problem_rows p) q d (problem-rows p are) shows.refuted.signs shows.head (nothing-above p given q d are there refl shows)

-- truth has positive probability in each distribution
inconsistent : (p : Parts) → IsImpossible (length p.names) (bounds_of p) Truth → IsInconsistent (length p.names) (bounds_of p)
inconsistent p h = record { none = λ d m. h.none d (record { model = m; positive = total-positive (length p.names) d m.distribution }) }

pub right_verdict : (p : Parts) (v : Verdict Dual) → AreParts p → IsValidVerdict p v → IsRightVerdict (length p.names) (bounds_of p) v
right_verdict p (Consistent m) are valid = valid
right_verdict p (Inconsistent d) are valid = inconsistent p (right_nothing p None d are tt valid)
right_verdict p OpenVerdict are valid = tt

right_lower : (p : Parts) (q : stored.Query) (s : SideAnswer Dual) → AreParts p → HasNodes p.nodes q.formula q.given q.both → IsValidSide p Lower q s
    → IsRightSide (length p.names) (bounds_of p) (query_of p.nodes q) AtLeast s
right_lower p q (Value value m d) are has valid = record {
  holds = shows_lower (length p.names) (bounds_of p) (problem_rows p) (query_of p.nodes q) value d (problem-rows p are) valid.refuted.signs valid.head (never_above p Lower q d are has valid.refuted);
  reached = valid.reached;
  basic = valid.basic;
}
right_lower p q OpenSide are has valid = tt

right_upper : (p : Parts) (q : stored.Query) (s : SideAnswer Dual) → AreParts p → HasNodes p.nodes q.formula q.given q.both → IsValidSide p Upper q s
    → IsRightSide (length p.names) (bounds_of p) (query_of p.nodes q) AtMost s
right_upper p q (Value value m d) are has valid = record {
  holds = shows_upper (length p.names) (bounds_of p) (problem_rows p) (query_of p.nodes q) value d (problem-rows p are) valid.refuted.signs valid.head (never_above p Upper q d are has valid.refuted);
  reached = valid.reached;
  basic = valid.basic;
}
right_upper p q OpenSide are has valid = tt

pub right_part : (p : Parts) (q : stored.Query) (a : QueryAnswer Dual) → AreParts p → HasNodes p.nodes q.formula q.given q.both → IsValidPart p q a
    → IsRightPart (length p.names) (bounds_of p) (query_of p.nodes q) a
right_part p q (Interval lower upper) are has valid = (right_lower p q lower are has valid.0, right_upper p q upper are has valid.1)
right_part p q (Impossible d) are has valid = right_nothing p q.given d are has.given_there valid
right_part p q OpenQuery are has valid = tt
