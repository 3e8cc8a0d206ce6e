-- The claims of an answer, in the order of a report, and the first fault among them.
use Rattle.std.specs.Prelude.{◌≡◌, ◌≢◌, ◌≤◌, ◌+◌, ◌⊎◌, ℕ, suc, pos, ◌≤ℤ◌, Option, Some, None, List}
use Rattle.std.specs.Prelude.{[], ◌∷◌, ◌++◌, length, map, sum, take, slice_get, All, AllPairs, Any, IfSome, IsSomeAnd}
use Rattle.ps_meaning.specs.Distribution.{Entry, weight, total}
use Rattle.ps_meaning.specs.declared.side.Side.TheVariants.{Exactly}
use Rattle.ps_meaning.specs.Bounds.{Bound, MeetsBound, MeetsAll}
use Rattle.ps_problem.specs.declared.query.Query as stored
use Rattle.ps_problem.specs.Problems.{Parts, bounds_of, given_at}
use Rattle.ps_meaning.specs.Rational.{Rational}
use Rattle.ps_claims.specs.Queries.{bound_on}
use Rattle.ps_claims.specs.Answers.{Model, Verdict, Consistent, Inconsistent, OpenVerdict}
use Rattle.ps_claims.specs.Answers.{SideAnswer, Value, OpenSide, QueryAnswer, Interval}
use Rattle.ps_claims.specs.Answers.{Impossible, OpenQuery, Answer, ShowsConsistent, asked_under}
use Rattle.ps_claims.specs.declared.claim.Claim.{Claim}
use Rattle.ps_claims.specs.declared.claim.Claim.TheVariants as claim
use Rattle.ps_claims.specs.declared.claim.Claim.TheVariants.{Report}
use Rattle.ps_claims.specs.declared.reason.Reason.{Reason}
use Rattle.ps_claims.specs.declared.reason.Reason.TheVariants.{WrongShape, TooManyWorlds, WeightZero, WorldTwice}
use Rattle.ps_claims.specs.declared.reason.Reason.TheVariants.{TotalWrong, BoundMissed, EvidenceZero, ValueMissed}
use Rattle.ps_claims.specs.Duals.{Dual, ClaimKind, Nothing, Lower, Upper}
use Rattle.ps_claims.specs.Faults.{start_for, IsFirstFault}
use Rattle.ps_claims.specs.Validity.{query_of, ShowsNothing, ShowsTight}

-- what a claim asserts, and what is to show it: a model of the bounds, that nothing is allowed, or a value on one side of a query
pub data Assertion : Type 0 where
  Modelled : (model : Model) → Assertion
  Excluded : (given : Option ℕ) (dual : Dual) → Assertion
  Bounded : (kind : ClaimKind) (query : stored.Query) (value : Rational) (model : Model) (dual : Dual) → Assertion

-- what a verdict claims: a model, or that nothing is allowed; an open one claims nothing
abbrev pub verdict_claims : Verdict Dual → List (Claim × Assertion)
verdict_claims (Consistent m) = (claim.Verdict, Modelled m) ∷ []
verdict_claims (Inconsistent d) = (claim.Verdict, Excluded None d) ∷ []
verdict_claims OpenVerdict = []

-- what a side of a query claims, where it is this claim: its value; an open one claims nothing
abbrev pub side_claims : Claim → ClaimKind → stored.Query → SideAnswer Dual → List (Claim × Assertion)
side_claims claim kind q (Value value m d) = (claim, Bounded kind q value m d) ∷ []
side_claims claim kind q OpenSide = []

-- what the part of the query of this number claims: what its sides do, or that nothing is allowed; an open one claims nothing
abbrev pub part_claims : ℕ → stored.Query → QueryAnswer Dual → List (Claim × Assertion)
part_claims n q (Interval lower upper) = side_claims (claim.Lower n) Lower q lower ++ side_claims (claim.Upper n) Upper q upper
part_claims n q (Impossible d) = (claim.Query n, Excluded q.given d) ∷ []
part_claims n q OpenQuery = []

-- the claims on queries that are numbered from here on
abbrev pub claims_from : ℕ → List stored.Query → List (QueryAnswer Dual) → List (Claim × Assertion)
claims_from n [] parts = []
claims_from n (q ∷ qs) [] = []
claims_from n (q ∷ qs) (a ∷ parts) = part_claims n q a ++ claims_from (suc n) qs parts

-- the claims of an answer to a problem: that of the verdict, and those on the queries in order
abbrev pub claims_of : Parts → Answer Dual → List (Claim × Assertion)
claims_of p a = verdict_claims a.verdict ++ claims_from 1 (asked_under a.verdict p.queries) a.parts

-- how much is open in a verdict: 1 where it is open, else 0
abbrev pub open_in_verdict : Verdict Dual → ℕ
open_in_verdict OpenVerdict = 1
open_in_verdict other = 0

-- how much is open in a side: 1 where it is open, else 0
abbrev pub open_in_side : SideAnswer Dual → ℕ
open_in_side OpenSide = 1
open_in_side other = 0

-- how much is open in a part: its open sides, or 1 where the query is open
abbrev pub open_in_part : QueryAnswer Dual → ℕ
open_in_part (Interval lower upper) = open_in_side lower + open_in_side upper
open_in_part (Impossible d) = 0
open_in_part OpenQuery = 1

-- how much of an answer is open: its verdict and its parts
abbrev pub unfinished_of : Answer Dual → ℕ
unfinished_of a = open_in_verdict a.verdict + sum (map open_in_part a.parts)

-- a claim is valid: its model shows the bounds consistent, its dual that nothing is allowed, or both that a value is tight
abbrev pub IsValidClaim : Parts → Assertion → Type 0
IsValidClaim p (Modelled m) = ShowsConsistent (length p.names) (bounds_of p) m
IsValidClaim p (Excluded given d) = ShowsNothing p given d
IsValidClaim p (Bounded kind q value m d) = ShowsTight p kind q value m d

-- there are as many parts as queries where the verdict is consistent, and none otherwise
abbrev pub HasParts : Parts → Answer Dual → Type 0
HasParts p a = length a.parts ≡ length (asked_under a.verdict p.queries)

-- each of these claims is valid
abbrev pub AreValid : Parts → List (Claim × Assertion) → Type 0
AreValid p claims = All (λ c. IsValidClaim p c.1) claims

-- the model of a claim, if it has one
abbrev pub claimed_model : Assertion → Option Model
claimed_model (Modelled m) = Some m
claimed_model (Excluded given d) = None
claimed_model (Bounded kind q value m d) = Some m

-- no weight is below 0
abbrev pub HaveWeightsNotBelow0 : List (Claim × Assertion) → Type 0
HaveWeightsNotBelow0 claims = All (λ c. IfSome (claimed_model c.1) (λ m. All (λ e. pos 0 ≤ℤ e.weight) m.worlds)) claims

-- the dual of a claim, if it has one
abbrev pub claimed_dual : Assertion → Option Dual
claimed_dual (Modelled m) = None
claimed_dual (Excluded given d) = Some d
claimed_dual (Bounded kind q value m d) = Some d

-- each world has each atom, and there is a multiplier for each bound
pub record HasShape (p : Parts) (c : Assertion) : Type 0 where
  pub worlds : IfSome (claimed_model c) (λ m. All (λ e. length e.world ≡ length p.names) m.worlds)
  pub rows : IfSome (claimed_dual c) (λ d. length d.rows ≡ length (bounds_of p))

-- each entry has a weight, and no world stands twice
pub record AreProperEntries (d : List Entry) : Type 0 where
  pub weighed : All (λ e. e.weight ≢ pos 0) d
  pub different : AllPairs (λ e e'. e.world ≢ e'.world) d

-- the entry of this number, from 1, is the first at fault: it weighs nothing
abbrev pub IsWeightless : List Entry → ℕ → Type 0
IsWeightless d n = (i : ℕ) × (n ≡ i + 1) × AreProperEntries (take i d) × IsSomeAnd (slice_get d i) (λ e. e.weight ≡ pos 0)

-- the entry of this number, from 1, is the first at fault: it has a weight, and its world stood before
abbrev pub IsRepeated : List Entry → ℕ → Type 0
IsRepeated d n = (i : ℕ) × (n ≡ i + 1) × AreProperEntries (take i d)
    × IsSomeAnd (slice_get d i) (λ e. (e.weight ≢ pos 0) × Any (λ x. x.world ≡ e.world) (take i d))

-- the item of this number, from 1, is the first that hasn't the property
abbrev pub IsFirstWithout : {X : Type 0} → (X → Type 0) → List X → ℕ → Type 0
IsFirstWithout P xs n = (i : ℕ) × (n ≡ i + 1) × All P (take i xs) × IsSomeAnd (slice_get xs i) (λ x. ¬ P x)

-- the bound of this number, from 1, is the first that isn't met
abbrev pub MissesFirst : List Bound → List Entry → ℕ → Type 0
MissesFirst bs d n = IsFirstWithout (λ b. MeetsBound b d) bs n

-- a model has at most one world more than the problem has bounds
abbrev pub AreFew : Parts → Model → Type 0
AreFew p m = length m.worlds ≤ length (bounds_of p) + 1

-- the total isn't 0 and is the sum of the weights
abbrev pub HasTotal : Model → Type 0
HasTotal m = (m.total ≢ pos 0) × (m.total ≡ total m.worlds)

-- nothing is wrong with a model whose worlds have the problem's atoms
pub record IsSound (p : Parts) (m : Model) : Type 0 where
  pub few : AreFew p m
  pub proper : AreProperEntries m.worlds
  pub total : HasTotal m
  pub met : MeetsAll (bounds_of p) m.worlds

-- where a value is claimed, the evidence weighs something in its model
abbrev pub HasEvidence : Parts → Assertion → Type 0
HasEvidence p (Bounded kind q value m d) = weight m.worlds (given_at p.nodes q.given) ≢ pos 0
HasEvidence p other = Unit {0}

-- where a value is claimed, it is what the model gives the query
abbrev pub HasValue : Parts → Assertion → Type 0
HasValue p (Bounded kind q value m d) = MeetsBound (bound_on (query_of p.nodes q) Exactly value) m.worlds
HasValue p other = Unit {0}

-- nothing is wrong with the model, if there is one
pub record IsModelRight (p : Parts) (c : Assertion) : Type 0 where
  pub shape : HasShape p c
  pub few : IfSome (claimed_model c) (AreFew p)
  pub proper : IfSome (claimed_model c) (λ m. AreProperEntries m.worlds)
  pub total : IfSome (claimed_model c) HasTotal
  pub met : IfSome (claimed_model c) (λ m. MeetsAll (bounds_of p) m.worlds)
  pub evidence : HasEvidence p c
  pub value : HasValue p c

-- the reason is the first against the dual, if there is one
abbrev pub IsDualWrong : Parts → Assertion → Reason → Type 0
IsDualWrong p (Modelled m) r = ⊥
IsDualWrong p (Excluded given d) r = IsFirstFault p (start_for p Nothing given 0 d) None d r
IsDualWrong p (Bounded kind q value m d) r = IsFirstFault p (start_for p kind q.given q.both d) (Some value) d r

-- the model is there, and this is true of it
abbrev pub OfModel : Assertion → (Model → Type 0) → Type 0
OfModel c P = IsSomeAnd (claimed_model c) P

-- the reason is the first against a claim: one against its shape or its model, or where these are right one against its dual
abbrev pub IsFirstIn : Parts → Assertion → Reason → Type 0
IsFirstIn p c WrongShape = ¬ HasShape p c
IsFirstIn p c TooManyWorlds = HasShape p c × OfModel c (λ m. ¬ AreFew p m)
IsFirstIn p c (WeightZero n) = HasShape p c × OfModel c (λ m. AreFew p m × IsWeightless m.worlds n)
IsFirstIn p c (WorldTwice n) = HasShape p c × OfModel c (λ m. AreFew p m × IsRepeated m.worlds n)
IsFirstIn p c TotalWrong = HasShape p c × OfModel c (λ m. AreFew p m × AreProperEntries m.worlds × ¬ HasTotal m)
IsFirstIn p c (BoundMissed n) = HasShape p c
    × OfModel c (λ m. AreFew p m × AreProperEntries m.worlds × HasTotal m × MissesFirst (bounds_of p) m.worlds n)
IsFirstIn p c EvidenceZero = HasShape p c
    × OfModel c (λ m. AreFew p m × AreProperEntries m.worlds × HasTotal m × MeetsAll (bounds_of p) m.worlds)
    × ¬ HasEvidence p c
IsFirstIn p c ValueMissed = HasShape p c
    × OfModel c (λ m. AreFew p m × AreProperEntries m.worlds × HasTotal m × MeetsAll (bounds_of p) m.worlds)
    × HasEvidence p c × ¬ HasValue p c
IsFirstIn p c r = IsModelRight p c × IsDualWrong p c r

-- this claim is the first that isn't valid, and the reason is the first against it
abbrev pub IsFirstAt : Parts → Answer Dual → Claim → Reason → Type 0
IsFirstAt p a claim r = HasParts p a × ((i : ℕ) × AreValid p (take i (claims_of p a))
    × IsSomeAnd (slice_get (claims_of p a) i) (λ c. (c.0 ≡ claim) × IsFirstIn p c.1 r))

-- the answer is refused for this reason against this claim: it hasn't its parts, or a claim isn't valid
abbrev pub IsRefused : Parts → Answer Dual → Claim → Reason → Type 0
IsRefused p a claim r = ((claim ≡ Report) × (r ≡ WrongShape) × ¬ HasParts p a) ⊎ IsFirstAt p a claim r
