-- Either a claim is valid, or it has a first fault.
use Rattle.std.proofs.Common.{◌≡◌, ◌≢◌, ◌⊎◌, inl, inr, ℕ, zero, suc, ◌+◌, ◌<◌, ◌≤◌, ℤ, pos, negsuc, ◌≤ℤ◌, Bool, true, false, true≢false, Option, Some, None, List, [], ◌∷◌, length, get_or, take, All, refl, sym, arith}
use Rattle.std.specs.Prelude.{slice_get, IsSomeAnd, Any}
use Rattle.std.specs.Option.{IfSome}
use Rattle.std.proofs.lemmas.Int.{ints}
use Rattle.std.proofs.lemmas.Bool.{cases_lt}
use Rattle.std.proofs.lemmas.List.{take_more}
use Rattle.std.proofs.lemmas.List.Elements.{All-head, All-tail, All-cons, All-nil, All-push}
use Rattle.std.proofs.lemmas.List.Quantifiers.{all_pairs_push}
use Rattle.std.proofs.Math.Seq.{take-length}
use Rattle.ps_meaning.proofs.Weights.{weight-nonneg}
use Rattle.ps_meaning.specs.Formula.{World}
use Rattle.ps_meaning.specs.Distribution.{Entry, weight, total}
use Rattle.ps_meaning.specs.declared.side.Side.{Side}
use Rattle.ps_meaning.specs.declared.side.Side.TheVariants.{AtLeast, AtMost, Exactly}
use Rattle.ps_meaning.specs.Bounds.{Bound, Compares, MeetsBound, MeetsAll}
use Rattle.ps_meaning.specs.Rows.{row_of, row_in, weighted_sum}
use Rattle.ps_meaning.proofs.BoundRows.{bounds_are_rows}
use Rattle.ps_problem.specs.declared.query.Query as stored
use Rattle.ps_problem.specs.Problems.{Parts, bounds_of, given_at}
use Rattle.ps_meaning.specs.Rational.{Rational}
use Rattle.ps_claims.specs.Queries.{bound_on}
use Rattle.ps_claims.specs.Answers.{Model, Answer, ShowsConsistent, asked_under}
use Rattle.ps_claims.specs.Duals.{Dual, ClaimKind, Nothing}
use Rattle.ps_claims.specs.Faults.{start_for, IsFaultless}
use Rattle.ps_claims.specs.Validity.{query_of, IsValid}
use Rattle.ps_claims.proofs.Claims.{claims-valid, first_of_dual}
use Rattle.ps_claims.specs.declared.claim.Claim.{Claim}
use Rattle.ps_claims.specs.declared.claim.Claim.TheVariants.{Report}
use Rattle.ps_claims.specs.declared.reason.Reason.{Reason}
use Rattle.ps_claims.specs.declared.reason.Reason.TheVariants.{WrongShape, TooManyWorlds, WeightZero, WorldTwice, TotalWrong, BoundMissed, EvidenceZero, ValueMissed}
use Rattle.ps_claims.specs.Claims.{Assertion, claims_of, AreValid, HaveWeightsNotBelow0, IsRefused, Modelled, Excluded, Bounded, IsValidClaim, claimed_model, claimed_dual, HasShape, AreProperEntries, IsWeightless, IsRepeated, MissesFirst, AreFew, HasTotal, IsSound, HasEvidence, HasValue, IsModelRight, OfModel, IsFirstIn}
use Rattle.ps_claims.proofs.Faults.{int_equal_cases, least_cases, fault_cases}

nat_equal_cases : (m n : ℕ) → (m ≡ n) ⊎ ¬ (m ≡ n)
nat_equal_cases m n = elim (cases_lt m n) [
  | inl below ↦ inr (λ e. omega (arith, below, e))
  | inr least ↦ elim (cases_lt n m) [ inl above ↦ inr (λ e. omega (arith, above, e)) | inr most ↦ inl (omega (arith, least, most)) ]
]

truth_cases : (a b : Bool) → (a ≡ b) ⊎ ¬ (a ≡ b)
truth_cases true true = inl refl
truth_cases true false = inr true≢false
truth_cases false true = inr (λ e. true≢false (sym e))
truth_cases false false = inl refl

world_cases : (v w : World) → (v ≡ w) ⊎ ¬ (v ≡ w)
world_cases [] [] = inl refl
world_cases [] (b ∷ w) = inr (λ e. cc)
world_cases (a ∷ v) [] = inr (λ e. cc)
world_cases (a ∷ v) (b ∷ w) = elim (truth_cases a b) [
  | inr other ↦ inr (λ e. other (let h : a ≡ b = cc in h))
  | inl same ↦ elim (world_cases v w) [ inr other ↦ inr (λ e. other (let h : v ≡ w = cc in h)) | inl rest ↦ inl (let h : a ∷ v ≡ b ∷ w = cc in h) ]
]

all_cases : {X : Type 0} (P : X → Type 0) (xs : List X) → ((x : X) → P x ⊎ ¬ P x) → All P xs ⊎ ¬ All P xs
all_cases P [] d = inl (All-nil P)
all_cases P (x ∷ xs) d = elim (d x) [
  | inr bad ↦ inr (λ h. bad (All-head P x xs h))
  | inl good ↦ elim (all_cases P xs d) [ inr bad ↦ inr (λ h. bad (All-tail P x xs h)) | inl rest ↦ inl (All-cons P x xs good rest) ]
]

if_some_cases : {X : Type 0} (P : X → Type 0) (o : Option X) → ((x : X) → P x ⊎ ¬ P x) → IfSome o P ⊎ ¬ IfSome o P
if_some_cases P None d = inl tt
if_some_cases P (Some x) d = d x

shape_cases : (p : Parts) (c : Assertion) → HasShape p c ⊎ ¬ HasShape p c
shape_cases p c = elim (if_some_cases (λ m. All (λ e. length e.world ≡ length p.names) m.worlds) (claimed_model c) (λ m. all_cases (λ e. length e.world ≡ length p.names) m.worlds (λ e. nat_equal_cases (length e.world) (length p.names)))) [
  | inr bad ↦ inr (λ h. bad h.worlds)
  | inl worlds ↦ elim (if_some_cases (λ d. length d.rows ≡ length (bounds_of p)) (claimed_dual c) (λ d. nat_equal_cases (length d.rows) (length (bounds_of p)))) [
    | inr bad ↦ inr (λ h. bad h.rows)
    | inl rows ↦ inl (record { worlds = worlds; rows = rows })
  ]
]

-- a world stands among entries, or each is another
among_cases : (w : World) (d : List Entry) → Any (λ x. x.world ≡ w) d ⊎ All (λ x. x.world ≢ w) d
among_cases w [] = inr (All-nil (λ x. x.world ≢ w))
among_cases w (e ∷ d) = elim (world_cases e.world w) [
  | inl same ↦ inl (0, e, omega arith, refl, same)
  | inr other ↦ elim (among_cases w d) [ inl later ↦ inl (later_any later) | inr none ↦ inr (All-cons (λ x. x.world ≢ w) e d other none) ]
]
  where
    later_any : Any (λ x. x.world ≡ w) d → Any (λ x. x.world ≡ w) (e ∷ d)
    later_any (k, x, lt, is, holds) = (suc k, x, omega (arith, lt), is, holds)

there : {X : Type 0} (P : X → Type 0) (xs : List X) (i : ℕ) (x : X) → i < length xs → P (get_or xs i x) → IsSomeAnd (slice_get xs i) P
there P [] i x lt h = absurd (omega arith)
there P (y ∷ xs) zero x lt h = h
there P (y ∷ xs) (suc i) x lt h = there P xs i x (omega arith) h

some_from : {X : Type 0} (xs : List X) (i : ℕ) → i < length xs → X
some_from [] i lt = absurd (omega arith)
some_from (x ∷ xs) i lt = x

proper-next : (d : List Entry) (i : ℕ) (x : Entry) → i < length d → AreProperEntries (take i d) → (get_or d i x).weight ≢ pos 0 → All (λ y. y.world ≢ (get_or d i x).world) (take i d) → AreProperEntries (take (i + 1) d)
proper-next d i x lt proper weighs new = rw (take_more d i x lt) (record {
  weighed = All-push (λ e. e.weight ≢ pos 0) (take i d) (get_or d i x) proper.weighed weighs;
  different = all_pairs_push (λ e e'. e.world ≢ e'.world) (take i d) (get_or d i x) proper.different new;
})

next_cases : (d : List Entry) (i : ℕ) (x : Entry) → i < length d → AreProperEntries (take i d) → AreProperEntries (take (i + 1) d) ⊎ ((n : ℕ) × (IsWeightless d n ⊎ IsRepeated d n))
next_cases d i x lt proper = elim (int_equal_cases (get_or d i x).weight (pos 0)) [
  | inl nothing ↦ inr (i + 1, inl (i, refl, proper, there (λ e. e.weight ≡ pos 0) d i x lt nothing))
  | inr weighs ↦ elim (among_cases (get_or d i x).world (take i d)) [
    | inl stood ↦ inr (i + 1, inr (i, refl, proper, there (λ e. (e.weight ≢ pos 0) × Any (λ y. y.world ≡ e.world) (take i d)) d i x lt (weighs, stood)))
    | inr new ↦ inl (proper-next d i x lt proper weighs new)
  ]
]

upto_cases : (d : List Entry) (i : ℕ) → i ≤ length d → AreProperEntries (take i d) ⊎ ((n : ℕ) × (IsWeightless d n ⊎ IsRepeated d n))
upto_cases d zero le = inl (record { weighed = All-nil (λ e. e.weight ≢ pos 0); different = λ i j x before lt. absurd (omega (arith, lt)) })
upto_cases d (suc i) le = elim (upto_cases d i (omega arith)) [
  | inr fault ↦ inr fault
  | inl proper ↦ (let e : i + 1 ≡ suc i = omega arith in rw e at (next_cases d i (some_from d i (omega arith)) (omega arith) proper))
]

proper_cases : (d : List Entry) → AreProperEntries d ⊎ ((n : ℕ) × (IsWeightless d n ⊎ IsRepeated d n))
proper_cases d = rw (take-length d) at (upto_cases d (length d) (omega arith))

compares_cases : (side : Side) (x y : ℤ) → Compares side x y ⊎ ¬ Compares side x y
compares_cases AtLeast x y = least_cases y x
compares_cases AtMost x y = least_cases x y
compares_cases Exactly x y = int_equal_cases x y

meets_cases : (b : Bound) (d : List Entry) → MeetsBound b d ⊎ ¬ MeetsBound b d
meets_cases b d = elim (compares_cases (row_of b).side (weighted_sum d (row_in (row_of b))) (pos 0)) [
  | inr missed ↦ inr (λ met. missed ((bounds_are_rows b d).0 met))
  | inl met ↦ inl ((bounds_are_rows b d).1 met)
]

later_missed : (b : Bound) (bs : List Bound) (d : List Entry) → MeetsBound b d → ((n : ℕ) × MissesFirst bs d n) → (n : ℕ) × MissesFirst (b ∷ bs) d n
later_missed b bs d met f = (suc f.0, (suc f.1.0, omega (arith, f.1.1), All-cons (λ x. MeetsBound x d) b (take f.1.0 bs) met f.1.2, f.1.3))

met_cases : (bs : List Bound) (d : List Entry) → MeetsAll bs d ⊎ ((n : ℕ) × MissesFirst bs d n)
met_cases [] d = inl (All-nil (λ x. MeetsBound x d))
met_cases (b ∷ bs) d = elim (meets_cases b d) [
  | inr missed ↦ inr (1, (0, omega arith, All-nil (λ x. MeetsBound x d), missed))
  | inl met ↦ elim (met_cases bs d) [ inl rest ↦ inl (All-cons (λ x. MeetsBound x d) b bs met rest) | inr found ↦ inr (later_missed b bs d met found) ]
]

total_cases : (m : Model) → HasTotal m ⊎ ¬ HasTotal m
total_cases m = elim (int_equal_cases m.total (pos 0)) [
  | inl nothing ↦ inr (λ h. h.0 nothing)
  | inr some ↦ elim (int_equal_cases m.total (total m.worlds)) [ inl same ↦ inl (some, same) | inr other ↦ inr (λ h. other h.1) ]
]

few_cases : (p : Parts) (m : Model) → AreFew p m ⊎ ¬ AreFew p m
few_cases p m = elim (cases_lt (length (bounds_of p) + 1) (length m.worlds)) [ inl many ↦ inr (λ few. omega (arith, many, few)) | inr few ↦ inl few ]

model_cases : (p : Parts) (c : Assertion) (m : Model) → HasShape p c → ((P : Model → Type 0) → P m → OfModel c P) → IsSound p m ⊎ ((r : Reason) × IsFirstIn p c r)
model_cases p c m shape of = elim (few_cases p m) [
  | inr many ↦ inr (TooManyWorlds, (shape, of (λ n. ¬ AreFew p n) many))
  | inl few ↦ elim (proper_cases m.worlds) [
    | inr fault ↦ elim fault.1 [
      | inl nothing ↦ inr (WeightZero fault.0, (shape, of (λ n. AreFew p n × IsWeightless n.worlds fault.0) (few, nothing)))
      | inr twice ↦ inr (WorldTwice fault.0, (shape, of (λ n. AreFew p n × IsRepeated n.worlds fault.0) (few, twice)))
    ]
    | inl proper ↦ elim (total_cases m) [
      | inr wrong ↦ inr (TotalWrong, (shape, of (λ n. AreFew p n × AreProperEntries n.worlds × ¬ HasTotal n) (few, proper, wrong)))
      | inl sum ↦ elim (met_cases (bounds_of p) m.worlds) [
        | inr missed ↦ inr (BoundMissed missed.0, (shape, of (λ n. AreFew p n × AreProperEntries n.worlds × HasTotal n × MissesFirst (bounds_of p) n.worlds missed.0) (few, proper, sum, missed.1)))
        | inl met ↦ inl (record { few = few; proper = proper; total = sum; met = met })
      ]
    ]
  ]
]

at_least_one : (z : ℤ) → z ≢ pos 0 → pos 0 ≤ℤ z → pos 1 ≤ℤ z
at_least_one (pos zero) n low = absurd (n refl)
at_least_one (pos (suc k)) n low = omega (arith, ints)
at_least_one (negsuc k) n low = absurd (omega (arith, ints))

some_entry : (d : List Entry) (z : ℤ) → z ≢ pos 0 → z ≡ total d → 0 < length d
some_entry [] z some sum = absurd (some sum)
some_entry (e ∷ d) z some sum = omega arith

-- where no weight is below 0, a sound model is a distribution that meets each bound, of at most one world more than there are
-- bounds, with the sum of its weights as total
pub sound-shows : (p : Parts) (m : Model) → All (λ e. length e.world ≡ length p.names) m.worlds → All (λ e. pos 0 ≤ℤ e.weight) m.worlds → IsSound p m
    → ShowsConsistent (length p.names) (bounds_of p) m
sound-shows p m shape low sound = record {
  model = record {
    distribution = record {
      some = some_entry m.worlds m.total sound.total.0 sound.total.1;
      worlds = shape;
      weighed = λ k e lt. at_least_one (get_or m.worlds k e).weight (sound.proper.weighed k e lt) (low k e lt);
      different = sound.proper.different;
    };
    met = sound.met;
  };
  basic = record { few = sound.few; total = sound.total.1 };
}

evidence_cases : (p : Parts) (m : Model) (given : Option ℕ) → (weight m.worlds (given_at p.nodes given) ≢ pos 0) ⊎ ¬ (weight m.worlds (given_at p.nodes given) ≢ pos 0)
evidence_cases p m given = elim (int_equal_cases (weight m.worlds (given_at p.nodes given)) (pos 0)) [ inl nothing ↦ inr (λ h. h nothing) | inr some ↦ inl some ]

modelled_cases : (p : Parts) (m : Model) → All (λ e. pos 0 ≤ℤ e.weight) m.worlds → IsValidClaim p (Modelled m) ⊎ ((r : Reason) × IsFirstIn p (Modelled m) r)
modelled_cases p m low = elim (shape_cases p (Modelled m)) [
  | inr bad ↦ inr (WrongShape, bad)
  | inl shape ↦ elim (model_cases p (Modelled m) m shape (λ P h. h)) [
    | inr fault ↦ inr fault
    | inl good ↦ inl (sound-shows p m shape.worlds low good)
  ]
]

excluded_cases : (p : Parts) (given : Option ℕ) (d : Dual) → IsValidClaim p (Excluded given d) ⊎ ((r : Reason) × IsFirstIn p (Excluded given d) r)
excluded_cases p given d = elim (shape_cases p (Excluded given d)) [
  | inr bad ↦ inr (WrongShape, bad)
  | inl shape ↦ elim (fault_cases p (start_for p Nothing given 0 d) None d shape.rows) [
    | inl right ↦ inl (record { head = right.head; refuted = record { signs = right.signs; steps = right.steps } })
    | inr wrong ↦ inr (wrong.0, first_of_dual p (Excluded given d) wrong.0 (record { shape = shape; few = tt; proper = tt; total = tt; met = tt; evidence = tt; value = tt }) wrong.1)
  ]
]

bounded-model : (p : Parts) (kind : ClaimKind) (q : stored.Query) (value : Rational) (m : Model) (d : Dual) → HasShape p (Bounded kind q value m d) → IsSound p m
    → HasEvidence p (Bounded kind q value m d) → HasValue p (Bounded kind q value m d) → IsModelRight p (Bounded kind q value m d)
bounded-model p kind q value m d shape good evidence is = record {
  shape = shape;
  few = good.few;
  proper = good.proper;
  total = good.total;
  met = good.met;
  evidence = evidence;
  value = is;
}

-- a bound with such a model and a faultless dual is valid
pub bounded-valid : (p : Parts) (kind : ClaimKind) (q : stored.Query) (value : Rational) (m : Model) (d : Dual) → All (λ e. pos 0 ≤ℤ e.weight) m.worlds → HasShape p (Bounded kind q value m d) → IsSound p m
    → HasEvidence p (Bounded kind q value m d) → HasValue p (Bounded kind q value m d) → IsFaultless p (start_for p kind q.given q.both d) (Some value) d → IsValidClaim p (Bounded kind q value m d)
bounded-valid p kind q value m d low shape good evidence is right =
    let shown = sound-shows p m shape.worlds low good in
    let least = weight-nonneg m.worlds (given_at p.nodes q.given) shown.model.distribution.weighed in
    record {
      reached = record { allowed = record { model = shown.model; positive = at_least_one (weight m.worlds (given_at p.nodes q.given)) evidence least }; equal = is };
      basic = shown.basic;
      head = right.head;
      refuted = record { signs = right.signs; steps = right.steps };
    }

bounded_cases : (p : Parts) (kind : ClaimKind) (q : stored.Query) (value : Rational) (m : Model) (d : Dual) → All (λ e. pos 0 ≤ℤ e.weight) m.worlds
    → IsValidClaim p (Bounded kind q value m d) ⊎ ((r : Reason) × IsFirstIn p (Bounded kind q value m d) r)
bounded_cases p kind q value m d low = elim (shape_cases p (Bounded kind q value m d)) [
  | inr bad ↦ inr (WrongShape, bad)
  | inl shape ↦ elim (model_cases p (Bounded kind q value m d) m shape (λ P h. h)) [
    | inr fault ↦ inr fault
    | inl good ↦ elim (evidence_cases p m q.given) [
      | inr nothing ↦ inr (EvidenceZero, (shape, (good.few, good.proper, good.total, good.met), nothing))
      | inl evidence ↦ elim (meets_cases (bound_on (query_of p.nodes q) Exactly value) m.worlds) [
        | inr other ↦ inr (ValueMissed, (shape, (good.few, good.proper, good.total, good.met), evidence, other))
        | inl is ↦ elim (fault_cases p (start_for p kind q.given q.both d) (Some value) d shape.rows) [
          | inr wrong ↦ inr (wrong.0, first_of_dual p (Bounded kind q value m d) wrong.0 (bounded-model p kind q value m d shape good evidence is) wrong.1)
          | inl right ↦ inl (bounded-valid p kind q value m d low shape good evidence is right)
        ]
      ]
    ]
  ]
]

-- where no weight is below 0, a claim is valid or has a first fault
pub claim_cases : (p : Parts) (c : Assertion) → IfSome (claimed_model c) (λ m. All (λ e. pos 0 ≤ℤ e.weight) m.worlds) → IsValidClaim p c ⊎ ((r : Reason) × IsFirstIn p c r)
claim_cases p (Modelled m) low = modelled_cases p m low
claim_cases p (Excluded given d) low = excluded_cases p given d
claim_cases p (Bounded kind q value m d) low = bounded_cases p kind q value m d low

-- as far as a list of claims goes, each is valid, or there is a first that isn't
claims_upto : (p : Parts) (cs : List (Claim × Assertion)) → All (λ c. IfSome (claimed_model c.1) (λ m. All (λ e. pos 0 ≤ℤ e.weight) m.worlds)) cs
    → AreValid p cs ⊎ ((claim : Claim) × (r : Reason) × (i : ℕ) × AreValid p (take i cs) × IsSomeAnd (slice_get cs i) (λ c. (c.0 ≡ claim) × IsFirstIn p c.1 r))
claims_upto p [] low = inl (All-nil (λ x. IsValidClaim p x.1))
claims_upto p (c ∷ cs) low = elim (claim_cases p c.1 (All-head (λ x. IfSome (claimed_model x.1) (λ m. All (λ e. pos 0 ≤ℤ e.weight) m.worlds)) c cs low)) [
  | inr fault ↦ inr (c.0, fault.0, 0, All-nil (λ x. IsValidClaim p x.1), (refl, fault.1))
  | inl valid ↦ elim (claims_upto p cs (All-tail (λ x. IfSome (claimed_model x.1) (λ m. All (λ e. pos 0 ≤ℤ e.weight) m.worlds)) c cs low)) [
    | inl rest ↦ inl (All-cons (λ x. IsValidClaim p x.1) c cs valid rest)
    | inr found ↦ inr (found.0, found.1, suc found.2, All-cons (λ x. IsValidClaim p x.1) c (take found.2 cs) valid found.3, found.4)
  ]
]

pub answer_cases : (p : Parts) (a : Answer Dual) → HaveWeightsNotBelow0 (claims_of p a) → IsValid p a ⊎ ((claim : Claim) × (r : Reason) × IsRefused p a claim r)
answer_cases p a low = elim (nat_equal_cases (length a.parts) (length (asked_under a.verdict p.queries))) [
  | inr other ↦ inr (Report, WrongShape, inl (refl, refl, other))
  | inl parts ↦ elim (claims_upto p (claims_of p a) low) [
    | inl valid ↦ inl (claims-valid p a parts valid)
    | inr found ↦ inr (found.0, found.1, inr (parts, (found.2, found.3, found.4)))
  ]
]
