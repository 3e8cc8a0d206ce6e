-- Valid answers are right.
use Rattle.std.proofs.Common.{◌≡◌, ℕ, ◌<◌, Option, None, List, [], ◌∷◌, length, map, All, refl}
use Rattle.std.specs.List.{AllZip}
use Rattle.std.specs.Option.{IfSome}
use Rattle.std.proofs.lemmas.List.Elements.{All-head, All-tail}
use Rattle.ps_meaning.specs.Formula.{World, Truth}
use Rattle.ps_meaning.specs.declared.side.Side.TheVariants.{AtLeast, AtMost}
use Rattle.ps_meaning.proofs.Weights.{total-positive}
use Rattle.ps_problem.specs.declared.query.Query as stored
use Rattle.ps_problem.specs.Problems.{Parts, AreParts, bounds_of, given_at, HasNodes}
use Rattle.ps_problem.specs.Rows.{rows_in}
use Rattle.ps_problem.proofs.BoundRows.{are-rows}
use Rattle.ps_clause.specs.Extensions.{extension}
use Rattle.ps_claims.specs.Queries.{Query, IsInconsistent, IsImpossible}
use Rattle.ps_claims.specs.Answers.{Verdict, Consistent, Inconsistent, OpenVerdict, SideAnswer, Value, OpenSide, QueryAnswer, Interval, Impossible, OpenQuery, Answer, IsRightVerdict, IsRightSide, IsRightPart, asked_under}
use Rattle.ps_claims.specs.Duals.{Dual, ClaimKind, Nothing, Lower, Upper, claimed_in, combination, IsNeverAbove}
use Rattle.ps_claims.specs.Goals.{value_under, claimed_of, combination_of}
use Rattle.ps_claims.specs.Validity.{query_of, IsRefuted, ShowsNothing, IsValidVerdict, IsValidSide, IsValidPart, IsValid, IsRightFor}
use Rattle.ps_claims.specs.Rows.{problem_rows}
use Rattle.ps_claims.proofs.ProblemRows.{problem-rows}
use Rattle.ps_claims.proofs.Duality.{shows_nothing, shows_lower, shows_upper}
use Rattle.ps_claims.proofs.NodeSums.{value-nothing, value-claimed, value-combination}
use Rattle.ps_claims.proofs.Refutations.{refuted-least}

never_above-by : (p : Parts) (kind : ClaimKind) (given : Option ℕ) (both : ℕ) (q : Query) (d : Dual) → AreParts p → IsRefuted p kind given both d
    → ((w : World) → value_under (extension p.nodes w) (claimed_of kind given both d) ≡ claimed_in kind q d w)
    → IsNeverAbove (length p.names) (combination kind (problem_rows p) q d)
never_above-by p kind given both q d are refuted claim = record {
  at = λ w long.
      rw (← value-combination kind p.nodes w given both (rows_in p.sentences) q d (are-rows p.nodes p.sentences are.bounds) (claim w))
      (refuted-least (length p.nodes) p.nodes w (combination_of kind given both (rows_in p.sentences) d) d.steps are.nodes refuted.steps);
}

-- a refuted combination is above 0 in no world
pub never_above : (p : Parts) (kind : ClaimKind) (q : stored.Query) (d : Dual) → AreParts p → HasNodes p.nodes q.formula q.given q.both → IsRefuted p kind q.given q.both d
    → IsNeverAbove (length p.names) (combination kind (problem_rows p) (query_of p.nodes q) d)
never_above p kind q d are has refuted = never_above-by p kind q.given q.both (query_of p.nodes q) d are refuted (λ w. value-claimed kind p.nodes w q d has)

valid-nothing : (p : Parts) (given : Option ℕ) (d : Dual) → AreParts p → IfSome given (λ g. g < length p.nodes) → ShowsNothing p given d → IsImpossible (length p.names) (bounds_of p) (given_at p.nodes given)
valid-nothing p given d are there shows =
    let q : Query = record { formula = Truth; evidence = given_at p.nodes given } in
    shows_nothing (length p.names) (bounds_of p) (problem_rows p) q d (problem-rows p are) shows.refuted.signs shows.head
    (never_above-by p Nothing given 0 q d are shows.refuted (λ w. value-nothing p.nodes w given 0 q d there refl))

-- truth has positive probability in each distribution
inconsistent : (p : Parts) → IsImpossible (length p.names) (bounds_of p) Truth → IsInconsistent (length p.names) (bounds_of p)
inconsistent p h = record { none = λ d m. h.none d (record { model = m; positive = total-positive (length p.names) d m.distribution }) }

valid-verdict : (p : Parts) (v : Verdict Dual) → AreParts p → IsValidVerdict p v → IsRightVerdict (length p.names) (bounds_of p) v
valid-verdict p (Consistent m) are valid = valid
valid-verdict p (Inconsistent d) are valid = inconsistent p (valid-nothing p None d are tt valid)
valid-verdict p OpenVerdict are valid = tt

valid-lower : (p : Parts) (q : stored.Query) (s : SideAnswer Dual) → AreParts p → HasNodes p.nodes q.formula q.given q.both → IsValidSide p Lower q s
    → IsRightSide (length p.names) (bounds_of p) (query_of p.nodes q) AtLeast s
valid-lower p q (Value value m d) are has valid = record {
  holds = shows_lower (length p.names) (bounds_of p) (problem_rows p) (query_of p.nodes q) value d (problem-rows p are) valid.refuted.signs valid.head (never_above p Lower q d are has valid.refuted);
  reached = valid.reached;
  basic = valid.basic;
}
valid-lower p q OpenSide are has valid = tt

valid-upper : (p : Parts) (q : stored.Query) (s : SideAnswer Dual) → AreParts p → HasNodes p.nodes q.formula q.given q.both → IsValidSide p Upper q s
    → IsRightSide (length p.names) (bounds_of p) (query_of p.nodes q) AtMost s
valid-upper p q (Value value m d) are has valid = record {
  holds = shows_upper (length p.names) (bounds_of p) (problem_rows p) (query_of p.nodes q) value d (problem-rows p are) valid.refuted.signs valid.head (never_above p Upper q d are has valid.refuted);
  reached = valid.reached;
  basic = valid.basic;
}
valid-upper p q OpenSide are has valid = tt

valid-part : (p : Parts) (q : stored.Query) (a : QueryAnswer Dual) → AreParts p → HasNodes p.nodes q.formula q.given q.both → IsValidPart p q a
    → IsRightPart (length p.names) (bounds_of p) (query_of p.nodes q) a
valid-part p q (Interval lower upper) are has valid = (valid-lower p q lower are has valid.0, valid-upper p q upper are has valid.1)
valid-part p q (Impossible d) are has valid = valid-nothing p q.given d are has.given_there valid
valid-part p q OpenQuery are has valid = tt

valid-parts : (p : Parts) (qs : List stored.Query) (xs : List (QueryAnswer Dual)) → AreParts p → All (λ q. HasNodes p.nodes q.formula q.given q.both) qs → AllZip (IsValidPart p) qs xs
    → AllZip (IsRightPart (length p.names) (bounds_of p)) (map (query_of p.nodes) qs) xs
valid-parts p [] [] are have valid = tt
valid-parts p [] (x ∷ xs) are have valid = absurd valid
valid-parts p (q ∷ qs) [] are have valid = absurd valid
valid-parts p (q ∷ qs) (x ∷ xs) are have valid = (
  valid-part p q x are (All-head (λ r. HasNodes p.nodes r.formula r.given r.both) q qs have) valid.0,
  valid-parts p qs xs are (All-tail (λ r. HasNodes p.nodes r.formula r.given r.both) q qs have) valid.1,
)

valid-asked : (p : Parts) (v : Verdict Dual) (xs : List (QueryAnswer Dual)) → AreParts p → AllZip (IsValidPart p) (asked_under v p.queries) xs
    → AllZip (IsRightPart (length p.names) (bounds_of p)) (asked_under v (map (query_of p.nodes) p.queries)) xs
valid-asked p (Consistent m) xs are valid = valid-parts p p.queries xs are are.queries valid
valid-asked p (Inconsistent d) [] are valid = tt
valid-asked p (Inconsistent d) (x ∷ xs) are valid = absurd valid
valid-asked p OpenVerdict [] are valid = tt
valid-asked p OpenVerdict (x ∷ xs) are valid = absurd valid

pub valid-right : (p : Parts) (a : Answer Dual) → AreParts p → IsValid p a → IsRightFor p a
valid-right p a are valid = record { verdict = valid-verdict p a.verdict are valid.verdict; parts = valid-asked p a.verdict a.parts are valid.parts }
