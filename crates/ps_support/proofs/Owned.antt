-- Each bound stands in the sentence that its place names.
use Rattle.std.proofs.Common.{◌≡◌, ◌≤◌, ◌+◌, ◌-◌, ◌∙◌, ℕ, suc, Bool, true, false, cond, List, [], ◌∷◌, ◌++◌, Some, None, length, length-append, refl, sym, ap, subst, inl, inr, append_assoc, arith}
use Rattle.std.specs.Prelude.{◌⊎◌, is_some, slice_get}
use Rattle.std.specs.List.{AllZip, Contains}
use Rattle.ps_problem.specs.declared.sentence.Sentence.{Sentence}
use Rattle.ps_problem.specs.declared.sentence.Sentence.TheVariants.{Plain, Linear}
use Rattle.ps_problem.specs.Problems.{Parts, AreParts, BoundIn, LinearIn, bounds_in, bounds_of_sentence}
use Rattle.ps_support.specs.declared.places.BoundPlace.{BoundPlace}
use Rattle.ps_support.specs.Places.{places_in, places_of}
use Rattle.ps_support.specs.Supports.{bounds_at}

-- the bound is one of the sentence that the place names
abbrev pub IsOwned : List Sentence → BoundIn → BoundPlace → Type 0
IsOwned ss b place = Contains (bounds_at (slice_get ss (place.sentence - 1))) b

one-more : (n : ℕ) → suc n - 1 ≡ n
one-more n = omega arith

get-behind : {X : Type 0} (xs : List X) (x : X) (ys : List X) → slice_get (xs ++ x ∷ ys) (length xs) ≡ Some x
get-behind [] x ys = refl
get-behind (y ∷ xs) x ys = get-behind xs x ys

-- the bounds of the sentence behind those before it
bounds-behind : (before : List Sentence) (s : Sentence) (ss : List Sentence) → bounds_at (slice_get (before ++ s ∷ ss) (suc (length before) - 1)) ≡ bounds_of_sentence s
bounds-behind before s ss =
    ap (λ (k : ℕ). bounds_at (slice_get (before ++ s ∷ ss) k)) (one-more (length before)) ∙ ap bounds_at (get-behind before s ss)

-- a sentence has one bound or two
count-by : (l : BoundIn) (m : BoundIn) (b : Bool) → (length (l ∷ cond b (m ∷ []) []) ≡ 1) ⊎ (length (l ∷ cond b (m ∷ []) []) ≡ 2)
count-by l m true = inr refl
count-by l m false = inl refl

count : (s : Sentence) → (length (bounds_of_sentence s) ≡ 1) ⊎ (length (bounds_of_sentence s) ≡ 2)
count (Plain first None) = inl refl
count (Plain first (Some second)) = inr refl
count (Linear l) = count-by (LinearIn l false) (LinearIn l true) (is_some l.upper)

-- the bounds of a sentence, each at its place
owned-here : (ss : List Sentence) (n : ℕ) (bs : List BoundIn) → (length bs ≡ 1) ⊎ (length bs ≡ 2) → ((b : BoundIn) → Contains bs b → Contains (bounds_at (slice_get ss (n - 1))) b)
    → AllZip (IsOwned ss) bs (places_of n (length bs))
owned-here ss n [] (inl e) all = absurd (omega (arith, e))
owned-here ss n [] (inr e) all = absurd (omega (arith, e))
owned-here ss n (b ∷ []) e all = (all b (0, omega arith, refl), tt)
owned-here ss n (b ∷ c ∷ []) e all = (all b (0, omega arith, refl), (all c (1, omega arith, refl), tt))
owned-here ss n (b ∷ c ∷ d ∷ bs) (inl e) all = absurd (omega (arith, e))
owned-here ss n (b ∷ c ∷ d ∷ bs) (inr e) all = absurd (omega (arith, e))

zip-append : {A B : Type 0} (R : A → B → Type 0) (xs us : List A) (ys vs : List B) → AllZip R xs ys → AllZip R us vs → AllZip R (xs ++ us) (ys ++ vs)
zip-append R [] us [] vs h k = k
zip-append R [] us (y ∷ ys) vs h k = absurd h
zip-append R (x ∷ xs) us [] vs h k = absurd h
zip-append R (x ∷ xs) us (y ∷ ys) vs h k = (h.0, zip-append R xs us ys vs h.1 k)

length-next : {X : Type 0} (xs : List X) (x : X) → length (xs ++ x ∷ []) ≡ suc (length xs)
length-next [] x = refl
length-next (y ∷ xs) x = ap suc (length-next xs x)

owned-from : (before ss : List Sentence) → AllZip (IsOwned (before ++ ss)) (bounds_in ss) (places_in (suc (length before)) ss)
owned-from before [] = tt
owned-from before (s ∷ ss) =
    let all = before ++ s ∷ ss in
    let here = owned-here all (suc (length before)) (bounds_of_sentence s) (count s) (λ b h. subst (λ (bs : List BoundIn). Contains bs b) (sym (bounds-behind before s ss)) h) in
    let same : (before ++ s ∷ []) ++ ss ≡ all = append_assoc before (s ∷ []) ss in
    let later : AllZip (IsOwned all) (bounds_in ss) (places_in (suc (suc (length before))) ss) =
    subst (λ (k : ℕ). AllZip (IsOwned all) (bounds_in ss) (places_in (suc k) ss)) (length-next before s)
    (subst (λ (xs : List Sentence). AllZip (IsOwned xs) (bounds_in ss) (places_in (suc (length (before ++ s ∷ []))) ss)) same (owned-from (before ++ s ∷ []) ss)) in
    zip-append (IsOwned all) (bounds_of_sentence s) (bounds_in ss) (places_of (suc (length before)) (length (bounds_of_sentence s))) (places_in (suc (suc (length before))) ss) here later

-- so is each bound of some sentences
pub owned : (ss : List Sentence) → AllZip (IsOwned ss) (bounds_in ss) (places_in 1 ss)
owned ss = owned-from [] ss

-- ---- counts
one-or-two : (n m k : ℕ) → n ≤ m → (k ≡ 1) ⊎ (k ≡ 2) → suc n ≤ k + m
one-or-two n m k le (inl e) = omega (arith, le, e)
one-or-two n m k le (inr e) = omega (arith, le, e)

-- there are no more sentences than bounds
pub sentences_few : (ss : List Sentence) → length ss ≤ length (bounds_in ss)
sentences_few [] = omega arith
sentences_few (s ∷ ss) =
    subst (λ (k : ℕ). suc (length ss) ≤ k) (sym (length-append (bounds_of_sentence s) (bounds_in ss)))
    (one-or-two (length ss) (length (bounds_in ss)) (length (bounds_of_sentence s)) (sentences_few ss) (count s))

-- so they are no more than a problem may have
pub sentences_within : (p : Parts) → AreParts p → length p.sentences ≤ 100
sentences_within p are = let few = are.few_bounds in omega (arith, few, sentences_few p.sentences)
