-- At most one entry is the first at fault, and at most one bound is the first that isn't met.
use Rattle.std.proofs.Common.{◌≡◌, ◌≢◌, ℕ, ◌+◌, ◌<◌, ◌≤◌, pos, Bool, true, false, Option, Some, None, List, length, take, All, get_or, slice_get, refl, sym, ap, subst, ◌∙◌, arith}
use Rattle.std.specs.Prelude.{◌⊎◌, IsSomeAnd, Any}
use mathlib.Core.Logic.{inl, inr}
use lib.Dec.{ltb}
use Rattle.std.proofs.lemmas.Bool.{ltb-true, ltb-false}
use Rattle.std.proofs.lemmas.List.{get_or-take, get_or_default, length-take-le, take_all}
use Rattle.std.proofs.lemmas.Option.{slice_get_within, get_or_from_slice_get}
use Rattle.ps_meaning.specs.Distribution.{Entry}
use Rattle.ps_meaning.specs.Bounds as meaning
use Rattle.ps_meaning.specs.Bounds.{MeetsBound, MeetsAll}
use Rattle.ps_claims.specs.Claims.{AreProperEntries, IsWeightless, IsRepeated, MissesFirst}

-- an element at a place stands at it in each longer front
at_place : {X : Type 0} (xs : List X) (i j : ℕ) (x : X) → i < j → slice_get xs i ≡ Some x → get_or (take j xs) i x ≡ x
at_place xs i j x lt e = get_or-take j xs i x lt ∙ get_or_from_slice_get xs i x x e

place_within : {X : Type 0} (xs : List X) (i j : ℕ) (x : X) → i < j → j ≤ length xs → i < length (take j xs)
place_within xs i j x lt le = rw (length-take-le j xs le) lt

-- what holds of a front holds at each place in it
pub holds_before : {X : Type 0} (P : X → Type 0) (xs : List X) (i j : ℕ) → i < j → j ≤ length xs → All P (take j xs) → IsSomeAnd (slice_get xs i) (λ x. ¬ P x) → ⊥
holds_before {X} P xs i j lt le all bad = by (slice_get xs i) refl bad
  where
    by : (o : Option X) → slice_get xs i ≡ o → IsSomeAnd o (λ x. ¬ P x) → ⊥
    by None e bad = bad
    by (Some x) e bad = bad (subst P (at_place xs i j x lt e) (all i x (place_within xs i j x lt le)))

-- the entry at a place weighs nothing, or its world stood before
abbrev pub IsFaulty : List Entry → ℕ → Type 0
IsFaulty d i = IsSomeAnd (slice_get d i) (λ e. (e.weight ≡ pos 0) ⊎ Any (λ x. x.world ≡ e.world) (take i d))

-- a world that stood before stands twice in a longer front
stood : (d : List Entry) (i j : ℕ) (e : Entry) → i < j → j ≤ length d → slice_get d i ≡ Some e → AreProperEntries (take j d) → ¬ Any (λ x. x.world ≡ e.world) (take i d)
stood d i j e lt le at proper (k, x, within, is, same) =
    let low : k < i = rw (length-take-le i d (omega arith)) at within in
    let here : get_or d k x ≡ x = sym (get_or-take i d k x low) ∙ is in
    let there : get_or (take j d) k e ≡ x = get_or-take j d k e (omega arith) ∙ get_or_default d k e x (omega arith) ∙ here in
    proper.different k i e low (place_within d i j e lt le) (ap (λ (y : Entry). y.world) there ∙ same ∙ ap (λ (y : Entry). y.world) (sym (at_place d i j e lt at)))

-- no entry at fault stands among entries in order
before_proper : (d : List Entry) (i j : ℕ) → i < j → j ≤ length d → AreProperEntries (take j d) → ¬ IsFaulty d i
before_proper d i j lt le proper faulty = by (slice_get d i) refl faulty
  where
    by : (o : Option Entry) → slice_get d i ≡ o → IsSomeAnd o (λ e. (e.weight ≡ pos 0) ⊎ Any (λ x. x.world ≡ e.world) (take i d)) → ⊥
    by None e faulty = faulty
    by (Some x) e (inl none) = proper.weighed i x (place_within d i j x lt le) (ap (λ (y : Entry). y.weight) (at_place d i j x lt e) ∙ none)
    by (Some x) e (inr twice) = stood d i j x lt le e proper twice

within_faulty : (d : List Entry) (i : ℕ) → IsFaulty d i → i < length d
within_faulty d i faulty = by (slice_get d i) refl faulty
  where
    by : (o : Option Entry) → slice_get d i ≡ o → IsSomeAnd o (λ e. (e.weight ≡ pos 0) ⊎ Any (λ x. x.world ≡ e.world) (take i d)) → i < length d
    by None e faulty = absurd faulty
    by (Some x) e faulty = slice_get_within d i x e

-- an entry at fault, and none before it
pub record IsFirstFaulty (d : List Entry) (n : ℕ) : Type 0 where
  place : ℕ
  number : n ≡ place + 1
  before : AreProperEntries (take place d)
  faulty : IsFaulty d place

pub weightless_faulty : (o : Option Entry) (d : List Entry) (i : ℕ) → IsSomeAnd o (λ e. e.weight ≡ pos 0) → IsSomeAnd o (λ e. (e.weight ≡ pos 0) ⊎ Any (λ x. x.world ≡ e.world) (take i d))
weightless_faulty None d i h = h
weightless_faulty (Some x) d i h = inl h

pub repeated_faulty : (o : Option Entry) (d : List Entry) (i : ℕ) → IsSomeAnd o (λ e. (e.weight ≢ pos 0) × Any (λ x. x.world ≡ e.world) (take i d)) → IsSomeAnd o (λ e. (e.weight ≡ pos 0) ⊎ Any (λ x. x.world ≡ e.world) (take i d))
repeated_faulty None d i h = h
repeated_faulty (Some x) d i h = inr h.1

abbrev pub of_weightless : (d : List Entry) (n : ℕ) → IsWeightless d n → IsFirstFaulty d n
of_weightless d n (i, is, proper, h) = record { place = i; number = is; before = proper; faulty = weightless_faulty (slice_get d i) d i h }

abbrev pub of_repeated : (d : List Entry) (n : ℕ) → IsRepeated d n → IsFirstFaulty d n
of_repeated d n (i, is, proper, h) = record { place = i; number = is; before = proper; faulty = repeated_faulty (slice_get d i) d i h }

not_before : (d : List Entry) (m n : ℕ) (a : IsFirstFaulty d m) (b : IsFirstFaulty d n) → ¬ (a.place < b.place)
not_before d m n a b lt = let within = within_faulty d b.place b.faulty in before_proper d a.place b.place lt (omega arith) b.before a.faulty

one_place : (d : List Entry) (m n : ℕ) (a : IsFirstFaulty d m) (b : IsFirstFaulty d n) → a.place ≡ b.place
one_place d m n a b = by (ltb a.place b.place) refl (ltb b.place a.place) refl
  where
    by : (s : Bool) → ltb a.place b.place ≡ s → (t : Bool) → ltb b.place a.place ≡ t → a.place ≡ b.place
    by true e t f = absurd (not_before d m n a b (ltb-true a.place b.place e))
    by false e true f = absurd (not_before d n m b a (ltb-true b.place a.place f))
    by false e false f =
        let low = ltb-false a.place b.place e in
        let high = ltb-false b.place a.place f in
        omega arith

pub one_number : (d : List Entry) (m n : ℕ) → IsFirstFaulty d m → IsFirstFaulty d n → m ≡ n
one_number d m n a b = let same = one_place d m n a b in omega (arith, a.number, b.number, same)

-- entries in order have none at fault
whole_proper : (d : List Entry) (n : ℕ) → IsFirstFaulty d n → ¬ AreProperEntries d
whole_proper d n a proper =
    let within = within_faulty d a.place a.faulty in
    before_proper d a.place (length d) within (omega arith) (subst AreProperEntries (sym (take_all (length d) d (omega arith))) proper) a.faulty

pub weightless_not_proper : (d : List Entry) (n : ℕ) → IsWeightless d n → ¬ AreProperEntries d
weightless_not_proper d n a = whole_proper d n (of_weightless d n a)

pub repeated_not_proper : (d : List Entry) (n : ℕ) → IsRepeated d n → ¬ AreProperEntries d
repeated_not_proper d n a = whole_proper d n (of_repeated d n a)

-- an entry of no weight isn't one that has a weight
pub weightless_or_repeated : (d : List Entry) (m n : ℕ) → IsWeightless d m → ¬ IsRepeated d n
weightless_or_repeated d m n (i, is, proper, h) (j, is', proper', h') =
    let same : i ≡ j = one_place d m n (of_weightless d m (i, is, proper, h)) (of_repeated d n (j, is', proper', h')) in
    by (slice_get d i) h (subst (λ (k : ℕ). IsSomeAnd (slice_get d i) (λ e. (e.weight ≢ pos 0) × Any (λ x. x.world ≡ e.world) (take k d))) (sym same) (subst (λ (k : ℕ). IsSomeAnd (slice_get d k) (λ e. (e.weight ≢ pos 0) × Any (λ x. x.world ≡ e.world) (take j d))) (sym same) h'))
  where
    by : (o : Option Entry) → IsSomeAnd o (λ e. e.weight ≡ pos 0) → IsSomeAnd o (λ e. (e.weight ≢ pos 0) × Any (λ x. x.world ≡ e.world) (take i d)) → ⊥
    by None h h' = h
    by (Some x) h h' = h'.0 h

missed_within : (bs : List meaning.Bound) (d : List Entry) (i : ℕ) → IsSomeAnd (slice_get bs i) (λ b. ¬ MeetsBound b d) → i < length bs
missed_within bs d i missed = by (slice_get bs i) refl missed
  where
    by : (o : Option meaning.Bound) → slice_get bs i ≡ o → IsSomeAnd o (λ b. ¬ MeetsBound b d) → i < length bs
    by None e missed = absurd missed
    by (Some b) e missed = slice_get_within bs i b e

pub missed_bound : (bs : List meaning.Bound) (d : List Entry) (n : ℕ) → MissesFirst bs d n → ¬ MeetsAll bs d
missed_bound bs d n (i, is, before, missed) met =
    let within = missed_within bs d i missed in
    holds_before (λ b. MeetsBound b d) bs i (length bs) within (omega arith) (subst (λ (x : List meaning.Bound). MeetsAll x d) (sym (take_all (length bs) bs (omega arith))) met) missed

missed_before : (bs : List meaning.Bound) (d : List Entry) (m n : ℕ) (a : MissesFirst bs d m) (b : MissesFirst bs d n) → ¬ (a.0 < b.0)
missed_before bs d m n (i, is, before, missed) (j, is', before', missed') lt =
    let within = missed_within bs d j missed' in
    holds_before (λ b. MeetsBound b d) bs i j lt (omega arith) before' missed

pub one_missed : (bs : List meaning.Bound) (d : List Entry) (m n : ℕ) → MissesFirst bs d m → MissesFirst bs d n → m ≡ n
one_missed bs d m n a b = by (ltb a.0 b.0) refl (ltb b.0 a.0) refl
  where
    by : (s : Bool) → ltb a.0 b.0 ≡ s → (t : Bool) → ltb b.0 a.0 ≡ t → m ≡ n
    by true e t f = absurd (missed_before bs d m n a b (ltb-true a.0 b.0 e))
    by false e true f = absurd (missed_before bs d n m b a (ltb-true b.0 a.0 f))
    by false e false f =
        let low = ltb-false a.0 b.0 e in
        let high = ltb-false b.0 a.0 f in
        omega (arith, a.1, b.1)
