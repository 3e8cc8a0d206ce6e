-- A bound rests on the sentences with a multiplier other than 0.
use Rattle.std.proofs.Common.{◌≡◌, ◌<◌, ◌-◌, ◌∙◌, inl, inr, ℕ, zero, suc, ℤ, pos, Bool, true, false, List, [], ◌∷◌, ◌++◌, map, Option, Some, None, All, length, get_or, refl, sym, ap, subst, arith}
use Rattle.std.specs.Prelude.{◌⊎◌, IfSome, option_to_list, slice_get}
use Rattle.std.specs.List.{AllZip, Contains}
use Rattle.std.specs.List.Sorted.{IsPermutation}
use Rattle.std.proofs.lemmas.List.{length-map}
use Rattle.std.proofs.lemmas.List.Elements.{All-nil, All-cons, All-head, All-tail}
use Rattle.std.proofs.lemmas.List.Sorted.{All-permutation, IsPermutation-sym}
use Rattle.std.proofs.lemmas.Slice.Zip.{AllZip-long}
use Rattle.ps_meaning.specs.Distribution.{Entry}
use Rattle.ps_meaning.specs.Bounds.{Bound, MeetsAll, MeetsBound}
use Rattle.ps_meaning.specs.Rational.{Rational}
use Rattle.ps_problem.specs.declared.query.Query as stored
use Rattle.ps_problem.specs.Problems.{Parts, AreParts, BoundIn, HasNodes, bound_of, bounds_in, bounds_of}
use Rattle.ps_answer.specs.declared.answer.Dual.{Dual}
use Rattle.ps_claims.specs.Duals.{HasSign, kept_of}
use Rattle.ps_claims.specs.Certificates.{dual_of}
use Rattle.ps_claims.specs.Queries.{Holds}
use Rattle.ps_claims.specs.Rows.{problem_rows}
use Rattle.ps_claims.specs.Validity.{query_of}
use Rattle.ps_claims.proofs.ProblemRows.{problem-rows, rows_many}
use Rattle.ps_claims.proofs.Valid.{never_above}
use Rattle.ps_support.specs.declared.bound_side.BoundSide.{BoundSide}
use Rattle.ps_support.specs.declared.places.BoundPlace.{BoundPlace}
use Rattle.ps_support.specs.declared.support.Supporting.{Supporting}
use Rattle.ps_support.specs.Places.{places_in}
use Rattle.ps_support.specs.Supports.{IsShownBy, MeetsSentence, RestsOn, bounds_at, is_other, kind_of, numbers_of, side_of, support_at, support_by, supports_in, supports_to}
use Rattle.ps_support.proofs.Kept.{holds_kept, zero_elsewhere}
use Rattle.ps_support.proofs.Owned.{IsOwned, owned}

-- ---- what all of a list have
front : {X : Type 0} (P : X → Type 0) (xs ys : List X) → All P (xs ++ ys) → All P xs
front P [] ys h = All-nil P
front P (x ∷ xs) ys h = All-cons P x xs (All-head P x (xs ++ ys) h) (front P xs ys (All-tail P x (xs ++ ys) h))

back : {X : Type 0} (P : X → Type 0) (xs ys : List X) → All P (xs ++ ys) → All P ys
back P [] ys h = h
back P (x ∷ xs) ys h = back P xs ys (All-tail P x (xs ++ ys) h)

mapped : {X Y : Type 0} (f : Y → X) (P : X → Type 0) (ys : List Y) → All P (map f ys) → All (λ y. P (f y)) ys
mapped f P [] h = All-nil (λ y. P (f y))
mapped f P (y ∷ ys) h = All-cons (λ y. P (f y)) y ys (All-head P (f y) (map f ys) h) (mapped f P ys (All-tail P (f y) (map f ys) h))

if-some : {X : Type 0} (P : X → Type 0) (o : Option X) → All P (option_to_list o) → IfSome o P
if-some P None h = tt
if-some P (Some x) h = All-head P x [] h

contained : {X : Type 0} (P : X → Type 0) (xs : List X) (x : X) → All P xs → Contains xs x → P x
contained P xs x all (k, lt, is) = subst P is (all k x lt)

-- ---- the bounds whose multipliers aren't 0
last-or-before : (i n : ℕ) → i < suc n → (i < n) ⊎ (i ≡ n)
last-or-before zero zero lt = inr refl
last-or-before zero (suc n) lt = inl (omega arith)
last-or-before (suc i) zero lt = absurd (omega (arith, lt))
last-or-before (suc i) (suc n) lt = more (last-or-before i n (omega (arith, lt)))
  where
    more : (i < n) ⊎ (i ≡ n) → (suc i < suc n) ⊎ (suc i ≡ suc n)
    more (inl k) = inl (omega (arith, k))
    more (inr e) = inr (ap suc e)

module _ (p : Parts) (side : BoundSide) (q : stored.Query) (d : Dual) (lines : List ℕ) (P : ℕ → Type 0) where
  abbrev Has : Supporting → Type 0
  Has s = P s.sentence

  abbrev at : ℕ → Option Supporting
  at i = support_at p side q d lines i

  abbrev to : ℕ → List Supporting
  to n = supports_to p side q d lines n

  step : (n i : ℕ) → All Has (to n ++ option_to_list (at n)) → (i < n → IfSome (at i) Has) → (i < n) ⊎ (i ≡ n) → IfSome (at i) Has
  step n i h earlier (inl lt) = earlier lt
  step n i h earlier (inr e) = subst (λ (k : ℕ). IfSome (at k) Has) (sym e) (if-some Has (at n) (back Has (to n) (option_to_list (at n)) h))

  -- what all that are told have, each has whose multiplier isn't 0
  to-each : (n : ℕ) → All Has (to n) → (i : ℕ) → i < n → IfSome (at i) Has
  to-each zero h i lt = absurd (omega (arith, lt))
  to-each (suc n) h i lt = step n i h (λ before. to-each n (front Has (to n) (option_to_list (at n)) h) i before) (last-or-before i n lt)

  named : (o : Option BoundPlace) (place : BoundPlace) (b : Option BoundIn) (y top : ℤ) → o ≡ Some place → is_other y ≡ true → IfSome (support_by side q b o lines (y, top)) Has → P place.sentence
  named o place b y top e f h = rw (e, f) at h

  named-at : (i : ℕ) (place : BoundPlace) → slice_get (places_in 1 p.sentences) i ≡ Some place → is_other (get_or d.rows i (pos 0)) ≡ true → IfSome (at i) Has → P place.sentence
  unfolding support_at
  named-at i place e f h = named (slice_get (places_in 1 p.sentences) i) place (slice_get (bounds_in p.sentences) i) (get_or d.rows i (pos 0)) d.top e f h

module _ (P : ℕ → Type 0) where
  named-zip : (places : List BoundPlace) (ys : List ℤ) → length places ≡ length ys
      → ((i : ℕ) (place : BoundPlace) → i < length places → slice_get places i ≡ Some place → is_other (get_or ys i (pos 0)) ≡ true → P place.sentence)
      → AllZip (λ place y. is_other y ≡ true → P place.sentence) places ys
  named-zip [] [] e h = tt
  named-zip [] (y ∷ ys) e h = absurd (omega (arith, e))
  named-zip (x ∷ places) [] e h = absurd (omega (arith, e))
  named-zip (x ∷ places) (y ∷ ys) e h =
      (h 0 x (omega arith) refl, named-zip places ys (omega (arith, e)) (λ i place lt g f. h (suc i) place (omega (arith, lt)) g f))

-- ---- distributions
kept-first : (d : List Entry) (b : Bound) (bs : List Bound) (k : Bool) (ks : List Bool) → (k ≡ true → MeetsBound b d) → MeetsAll (kept_of ks bs) d → MeetsAll (kept_of (k ∷ ks) (b ∷ bs)) d
kept-first d b bs true ks here later = All-cons (λ c. MeetsBound c d) b (kept_of ks bs) (here refl) later
kept-first d b bs false ks here later = later

-- one that meets the sentences of the bounds whose multipliers aren't 0 meets these bounds
meets : (p : Parts) (d : List Entry) (bs : List BoundIn) (places : List BoundPlace) (ys : List ℤ) → AllZip (IsOwned p.sentences) bs places
    → AllZip (λ place y. is_other y ≡ true → MeetsSentence p d place.sentence) places ys → MeetsAll (kept_of (map is_other ys) (map (bound_of p.nodes) bs)) d
meets p d [] [] [] own told = All-nil (λ b. MeetsBound b d)
meets p d [] [] (y ∷ ys) own told = absurd told
meets p d [] (x ∷ places) ys own told = absurd own
meets p d (b ∷ bs) [] ys own told = absurd own
meets p d (b ∷ bs) (x ∷ places) [] own told = absurd told
meets p d (b ∷ bs) (x ∷ places) (y ∷ ys) own told =
    let here = bounds_at (slice_get p.sentences (x.sentence - 1)) in
    kept-first d (bound_of p.nodes b) (map (bound_of p.nodes) bs) (is_other y) (map is_other ys)
    (λ e. contained (λ (c : BoundIn). MeetsBound (bound_of p.nodes c) d) here b (mapped (bound_of p.nodes) (λ (c : Bound). MeetsBound c d) here (told.0 e)) own.0)
    (meets p d bs places ys own.1 told.1)

-- ---- the bound
module _ (p : Parts) (side : BoundSide) (q : stored.Query) (value : Rational) (d : Dual) (are : AreParts p) (shown : IsShownBy p side q value d) where
  -- there are as many multipliers as bounds
  pub rows_as_bounds : length d.rows ≡ length (bounds_in p.sentences)
  rows_as_bounds =
      AllZip-long (λ r y. HasSign r.side y) (problem_rows p) d.rows shown.refuted.signs ∙ rows_many p ∙ length-map (bounds_in p.sentences) (bound_of p.nodes)

  -- it holds in every distribution that meets the sentences alone that are told
  pub rests : HasNodes p.nodes q.formula q.given q.both → (lines : List ℕ) (told : List Supporting) → IsPermutation (supports_in p side q d lines) told
      → RestsOn p (query_of p.nodes q) (side_of side) value (numbers_of told)
  rests has lines told moved = record {
    met = λ e h.
        let places = places_in 1 p.sentences in
        let holds : Holds (length p.names) (kept_of (map is_other d.rows) (bounds_of p)) (query_of p.nodes q) (side_of side) value =
        holds_kept (length p.names) side (map is_other d.rows) (bounds_of p) (problem_rows p) (query_of p.nodes q) value (dual_of d) (problem-rows p are) shown.refuted.signs
        (zero_elsewhere d.rows) shown.head (never_above p (kind_of side) q (dual_of d) are has shown.refuted) in
        let all : All (λ (s : Supporting). MeetsSentence p e s.sentence) (supports_in p side q d lines) =
        All-permutation (λ (s : Supporting). MeetsSentence p e s.sentence) told (supports_in p side q d lines) (IsPermutation-sym (supports_in p side q d lines) told moved)
        (mapped (λ (s : Supporting). s.sentence) (MeetsSentence p e) told h.met) in
        let long : length places ≡ length (bounds_in p.sentences) = AllZip-long (IsOwned p.sentences) (bounds_in p.sentences) places (owned p.sentences) in
        let met = meets p e (bounds_in p.sentences) places d.rows (owned p.sentences)
        (named-zip (MeetsSentence p e) places d.rows (long ∙ sym rows_as_bounds)
        (λ i place lt g f. named-at p side q d lines (MeetsSentence p e) i place g f
        (to-each p side q d lines (MeetsSentence p e) (length (bounds_in p.sentences)) all i (subst (λ (n : ℕ). i < n) long lt)))) in
        holds.met e (record { model = record { distribution = h.distribution; met = met }; positive = h.positive });
  }
