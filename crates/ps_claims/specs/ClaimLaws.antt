-- Laws of duals, combinations and claims.
use Rattle.std.specs.Prelude.{◌≡◌, ◌≤◌, ◌<◌, ◌*ℤ◌, ◌⊎◌, ◌↔◌, ℕ, ℤ, pos, ◌≤ℤ◌, unsigned_abs, Bool, Option, List, length, All}
use Rattle.ps_meaning.specs.Formula.{World}
use Rattle.ps_meaning.specs.declared.side.Side.TheVariants.{AtLeast, AtMost}
use Rattle.ps_meaning.specs.Bounds.{Bound}
use Rattle.ps_meaning.specs.Rows.{Row}
use Rattle.ps_meaning.specs.declared.limits.TheConstants.{PRINTED_LIMIT}
use Rattle.ps_meaning.specs.Rational.{Rational, fraction}
use Rattle.ps_problem.specs.Problems.{Parts, AreParts, bounds_of, HasNodes}
use Rattle.ps_problem.specs.Rows.{rows_in}
use Rattle.ps_problem.specs.declared.query.Query as stored
use Rattle.ps_pb.specs.Constraints.{IsMet}
use Rattle.ps_clause.specs.Extensions.{extension}
use Rattle.ps_claims.specs.Queries.{Query, IsImpossible, Holds}
use Rattle.ps_claims.specs.Answers.{Answer}
use Rattle.ps_claims.specs.declared.claim.Claim.{Claim}
use Rattle.ps_claims.specs.declared.reason.Reason.{Reason}
use Rattle.ps_claims.specs.Duals.{Dual, ClaimKind, Nothing, Lower, Upper, HaveSigns}
use Rattle.ps_claims.specs.Duals.{kept_of, AreZeroElsewhere, combination, IsNeverAbove, HasNothingHead, HasValueHead}
use Rattle.ps_claims.specs.Goals.{Combination, value_under, size_of, combination_of, goal_of}
use Rattle.ps_claims.specs.Limits.{most_combination}
use Rattle.ps_claims.specs.Rows.{problem_rows, AreRowsOf}
use Rattle.ps_claims.specs.Faults.{start_for, IsFaultless, IsFirstFault}
use Rattle.ps_claims.specs.Claims.{claims_of, HasParts, AreValid, HaveWeightsNotBelow0, IsRefused}
use Rattle.ps_claims.specs.Validity.{query_of, IsRefuted, IsValid, IsRightFor}

-- each bound of a problem is met exactly where its row is
abbrev pub ProblemsHaveRows : Type 0
ProblemsHaveRows = (p : Parts) → AreParts p → AreRowsOf (bounds_of p) (problem_rows p)

-- a dual of head at least 1 and top 0 shows that no distribution is allowed
abbrev pub DualsExcludeAll : Type 0
DualsExcludeAll = (atoms : ℕ) (bounds : List Bound) (rows : List Row) (q : Query) (d : Dual) → AreRowsOf bounds rows
    → HaveSigns rows d.rows → HasNothingHead d
    → IsNeverAbove atoms (combination Nothing rows q d) → IsImpossible atoms bounds q.evidence

-- it shows so of the bounds that are kept, where each is whose multiplier isn't 0
abbrev pub KeptBoundsExcludeAll : Type 0
KeptBoundsExcludeAll = (atoms : ℕ) (kept : List Bool) (bounds : List Bound) (rows : List Row) (q : Query) (d : Dual)
    → AreRowsOf bounds rows → HaveSigns rows d.rows → AreZeroElsewhere kept d.rows
    → HasNothingHead d → IsNeverAbove atoms (combination Nothing rows q d) → IsImpossible atoms (kept_of kept bounds) q.evidence

-- a dual whose head over its top is the value shows that the query's probability is at least the value
abbrev pub DualsBoundBelow : Type 0
DualsBoundBelow = (atoms : ℕ) (bounds : List Bound) (rows : List Row) (q : Query) (value : Rational) (d : Dual)
    → AreRowsOf bounds rows → HaveSigns rows d.rows → HasValueHead value d
    → IsNeverAbove atoms (combination Lower rows q d) → Holds atoms bounds q AtLeast value

-- a dual whose head over its top is the value shows that the query's probability is at most the value
abbrev pub DualsBoundAbove : Type 0
DualsBoundAbove = (atoms : ℕ) (bounds : List Bound) (rows : List Row) (q : Query) (value : Rational) (d : Dual)
    → AreRowsOf bounds rows → HaveSigns rows d.rows → HasValueHead value d
    → IsNeverAbove atoms (combination Upper rows q d) → Holds atoms bounds q AtMost value

-- a combination over nodes has at a world's extension the value of the combination in the world
abbrev pub CombinationsAreSums : Type 0
CombinationsAreSums = (p : Parts) (kind : ClaimKind) (q : stored.Query) (d : Dual) (w : World) → AreParts p
    → HasNodes p.nodes q.formula q.given q.both
    → value_under (extension p.nodes w) (combination_of kind q.given q.both (rows_in p.sentences) d)
    ≡ combination kind (problem_rows p) (query_of p.nodes q) d w

-- by a dual of numbers that can be printed, the sizes in a combination sum to at most that
abbrev pub CombinationsAreSmall : Type 0
CombinationsAreSmall = (p : Parts) (kind : ClaimKind) (given : Option ℕ) (both : ℕ) (d : Dual) → AreParts p
    → All (λ y. unsigned_abs y ≤ PRINTED_LIMIT) d.rows
    → unsigned_abs d.head ≤ PRINTED_LIMIT → unsigned_abs d.top ≤ PRINTED_LIMIT
    → size_of (combination_of kind given both (rows_in p.sentences) d) ≤ most_combination

-- the goal of a combination is met exactly where the combination's value is at least 1
abbrev pub GoalsSayAtLeastOne : Type 0
GoalsSayAtLeastOne = (v : List Bool) (c : Combination) → IsMet v (goal_of c) ↔ (pos 1 ≤ℤ value_under v c)

-- where steps refute the goal of a combination, the combination is above 0 in no world
abbrev pub RefutedGoalsBoundCombinations : Type 0
RefutedGoalsBoundCombinations = (p : Parts) (kind : ClaimKind) (q : stored.Query) (d : Dual) → AreParts p
    → HasNodes p.nodes q.formula q.given q.both
    → IsRefuted p kind q.given q.both d → IsNeverAbove (length p.names) (combination kind (problem_rows p) (query_of p.nodes q) d)

-- nothing is wrong with a dual that has a multiplier for each bound, or there is a first fault
abbrev pub DualsAreFaultlessOrFaulty : Type 0
DualsAreFaultlessOrFaulty = (p : Parts) (kind : ClaimKind) (given : Option ℕ) (both : ℕ) (value : Option Rational)
    (d : Dual) → length d.rows ≡ length (bounds_of p)
    → IsFaultless p (start_for p kind given both d) value d
    ⊎ ((r : Reason) × IsFirstFault p (start_for p kind given both d) value d r)

-- a faultless dual has no first fault
abbrev pub FaultlessDualsHaveNoFault : Type 0
FaultlessDualsHaveNoFault = (p : Parts) (kind : ClaimKind) (given : Option ℕ) (both : ℕ) (value : Option Rational)
    (d : Dual) (r : Reason)
    → IsFaultless p (start_for p kind given both d) value d → ¬ IsFirstFault p (start_for p kind given both d) value d r

-- head over top is a value exactly where their quotient is
abbrev pub HeadsAreQuotients : Type 0
HeadsAreQuotients = (value : Rational) (head : ℤ) (top : ℕ) → 0 < top
    → ((head *ℤ pos value.under) ≡ (value.over *ℤ pos top)) ↔ (fraction head top ≡ value)

-- valid answers are right
abbrev pub ValidAnswersAreRight : Type 0
ValidAnswersAreRight = (p : Parts) (a : Answer Dual) → AreParts p → IsValid p a → IsRightFor p a

-- an answer is valid exactly where it has its parts and each of its claims is valid
abbrev pub ValidAnswersHaveValidClaims : Type 0
ValidAnswersHaveValidClaims = (p : Parts) (a : Answer Dual) → IsValid p a ↔ (HasParts p a × AreValid p (claims_of p a))

-- an answer in which no weight is below 0 is valid or refused
abbrev pub AnswersAreValidOrRefused : Type 0
AnswersAreValidOrRefused = (p : Parts) (a : Answer Dual) → HaveWeightsNotBelow0 (claims_of p a)
    → IsValid p a ⊎ ((claim : Claim) × (r : Reason) × IsRefused p a claim r)

-- a valid answer is refused for no reason
abbrev pub ValidAnswersAreNotRefused : Type 0
ValidAnswersAreNotRefused = (p : Parts) (a : Answer Dual) (claim : Claim) (r : Reason) → IsValid p a → ¬ IsRefused p a claim r
