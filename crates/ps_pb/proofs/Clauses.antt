-- The clause of literals of different variables.
use Rattle.std.proofs.Common.{◌≡◌, ◌≢◌, ℕ, zero, suc, ◌+◌, ◌<◌, ◌≤◌, ℤ, pos, negsuc, ◌+ℤ◌, ◌-ℤ◌, neg_ℤ, Bool, true, false, cond, List, [], ◌∷◌, length, get_or, arith, refl, sym, ap, ◌∙◌, ◌⊎◌, inl, inr}
use Rattle.std.specs.List.{All, count_by, filter}
use Rattle.std.proofs.lemmas.Int.{ints}
use Rattle.std.proofs.lemmas.Bool.{cases_eq}
use Rattle.std.proofs.lemmas.List.Elements.{All-nil, All-append, All-cons}
use Rattle.std.proofs.lemmas.List.Sums.{length-filter, sum_by-cons}
use Rattle.ps_pb.specs.Assignments.{Assignment, place, is_positive, literal_at, value_of, AreDifferent}
use Rattle.ps_pb.specs.Constraints.{sum_where, is_open, slack}
use Rattle.ps_pb.specs.Weights.{constant_of, coefficient_at, term_at, turned, terms_below, sum_below, last_variable, constraint_of, each_once, clause_of, IsPlain}
use Rattle.ps_pb.proofs.Linear.{DiffersAt, sum_below-change, sum_below-zero, coefficient-elsewhere, coefficient-own, sum_where-append}

-- no literal is of the variable at a place
abbrev pub HasNoneAt : ℕ → List ℤ → Type 0
HasNoneAt p [] = Unit {0}
HasNoneAt p (l ∷ ls) = (place l ≢ p) × HasNoneAt p ls

abbrev pub Differ : List ℤ → Type 0
Differ [] = Unit {0}
Differ (l ∷ ls) = HasNoneAt (place l) ls × Differ ls

none_at : (p : ℕ) (ls : List ℤ) → ((i : ℕ) (d : ℤ) → i < length ls → place (get_or ls i d) ≢ p) → HasNoneAt p ls
none_at p [] h = tt
none_at p (l ∷ ls) h = (h zero l (omega arith), none_at p ls (λ i d lt. h (suc i) d (omega (arith, lt))))

pub different-differ : (ls : List ℤ) → AreDifferent ls → Differ ls
different-differ [] h = tt
different-differ (l ∷ ls) h =
    (none_at (place l) ls (λ i d lt e. h zero (suc i) d (omega arith) (omega (arith, lt)) (sym e)), different-differ ls (λ i j d lt below. h (suc i) (suc j) d (omega (arith, lt)) (omega (arith, below))))

-- a coefficient is 0, 1 or -1
pub none-zero : (p : ℕ) (ls : List ℤ) → HasNoneAt p ls → coefficient_at (each_once ls) p ≡ pos 0
none-zero p [] h = refl
none-zero p (l ∷ ls) h = coefficient-elsewhere (l, pos 1) (each_once ls) p (λ e. h.0 (sym e)) ∙ none-zero p ls h.1

abbrev IsUnit : ℤ → Type 0
IsUnit k = (k ≡ pos 0) ⊎ ((k ≡ pos 1) ⊎ (k ≡ negsuc 0))

signed_unit : (b : Bool) → cond b (pos 1) (neg_ℤ (pos 1)) ≡ cond b (pos 1) (negsuc 0)
signed_unit true = refl
signed_unit false = refl

own-unit : (l : ℤ) (ls : List ℤ) → HasNoneAt (place l) ls → coefficient_at (each_once (l ∷ ls)) (place l) ≡ cond (is_positive l) (pos 1) (negsuc 0)
own-unit l ls h = coefficient-own (l, pos 1) (each_once ls) ∙ plus_zero _ _ (none-zero (place l) ls h) ∙ signed_unit (is_positive l)
  where
    plus_zero : (k z : ℤ) → z ≡ pos 0 → k +ℤ z ≡ k
    plus_zero k z e = omega (arith, ints, e)

is_unit : (b : Bool) (k : ℤ) → k ≡ cond b (pos 1) (negsuc 0) → IsUnit k
is_unit true k e = inr (inl e)
is_unit false k e = inr (inr e)

each_unit : (p : ℕ) (ls : List ℤ) → Differ ls → IsUnit (coefficient_at (each_once ls) p)
each_unit p [] h = inl refl
each_unit p (l ∷ ls) h = elim (cases_eq p (place l)) [
  | inl e ↦ rw e (is_unit (is_positive l) _ (own-unit l ls h.0))
  | inr ne ↦ rw (coefficient-elsewhere (l, pos 1) (each_once ls) p ne) (each_unit p ls h.1)
]

-- so each term's coefficient is 1
abbrev IsOne : (ℤ × ℕ) → Type 0
IsOne t = t.1 ≡ 1

one_term : (p : ℕ) (k : ℤ) → IsUnit k → All IsOne (term_at p k)
one_term p k (inl e) = rw e (All-nil IsOne)
one_term p k (inr (inl e)) = rw e (All-cons IsOne (pos (suc p), 1) [] refl (All-nil IsOne))
one_term p k (inr (inr e)) = rw e (All-cons IsOne (negsuc p, 1) [] refl (All-nil IsOne))

one_terms : (n : ℕ) (f : ℕ → ℤ) → ((p : ℕ) → IsUnit (f p)) → All IsOne (terms_below n f)
one_terms zero f h = All-nil IsOne
one_terms (suc p) f h = All-append IsOne (terms_below p f) (term_at p (f p)) (one_terms p f h) (one_term p (f p) (h p))

-- what is turned adds up to the constant, so the degree is 1
turned_one : (b : Bool) (k : ℤ) → k ≡ cond b (pos 1) (negsuc 0) → turned k ≡ cond b (pos 0) (pos 1)
turned_one true k e = rw e refl
turned_one false k e = rw e refl

turned_sum : (n : ℕ) (ls : List ℤ) → Differ ls → last_variable (each_once ls) ≤ n → sum_below n (λ p. turned (coefficient_at (each_once ls) p)) ≡ constant_of (each_once ls)
turned_sum n [] h m = sum_below-zero n (λ p. turned (coefficient_at [] p)) (record { at = λ p. refl })
turned_sum n (l ∷ ls) h m =
    let q = place l in
    let f : ℕ → ℤ = λ p. turned (coefficient_at (each_once (l ∷ ls)) p) in
    let g : ℕ → ℤ = λ p. turned (coefficient_at (each_once ls) p) in
    let d : DiffersAt q f g = record { elsewhere = λ p ne. ap turned (coefficient-elsewhere (l, pos 1) (each_once ls) p ne) } in
    let change = sum_below-change n q f g d (omega (arith, m)) in
    let none : g q ≡ pos 0 = ap turned (none-zero q ls h.0) in
    let own : f q ≡ cond (is_positive l) (pos 0) (pos 1) = turned_one (is_positive l) _ (own-unit l ls h.0) in
    let rest = turned_sum n ls h.1 (omega (arith, m)) in
    omega (arith, ints, change, none, own, rest)

pub clause-plain : (ls : List ℤ) → AreDifferent ls → IsPlain (clause_of ls)
unfolding constraint_of
clause-plain ls h =
    let differ = different-differ ls h in
    let n = last_variable (each_once ls) in
    record {
      degree = omega (arith, ints, turned_sum n ls differ (omega arith));
      coefficients = one_terms n (coefficient_at (each_once ls)) (λ p. each_unit p ls differ);
    }

-- a test of literals that sees their place and sign
pub record Reads (f : ℤ → Bool) : Type 0 where
  pub at : (l : ℤ) → f (literal_at (place l) (is_positive l)) ≡ f l

pub place_of : (p : ℕ) (b : Bool) → place (literal_at p b) ≡ p
place_of p true = omega arith
place_of p false = omega arith

pub sign_of : (p : ℕ) (b : Bool) → is_positive (literal_at p b) ≡ b
sign_of p true = refl
sign_of p false = refl

pub open-reads : (a : Assignment) → Reads (is_open a)
unfolding value_of
open-reads a = record { at = λ l. rw (place_of (place l) (is_positive l), sign_of (place l) (is_positive l)) refl }

-- what a term counts
abbrev worth : (ℤ → Bool) → (ℕ → ℤ) → ℕ → ℤ
worth f g p = pos (sum_where f (term_at p (g p)))

terms_sum : (f : ℤ → Bool) (g : ℕ → ℤ) (n : ℕ) → pos (sum_where f (terms_below n g)) ≡ sum_below n (worth f g)
terms_sum f g zero = refl
terms_sum f g (suc p) = omega (arith, ints, sum_where-append f (terms_below p g) (term_at p (g p)), terms_sum f g p)

own_worth : (f : ℤ → Bool) (p : ℕ) (b : Bool) (k : ℤ) → k ≡ cond b (pos 1) (negsuc 0) → sum_where f (term_at p k) ≡ cond (f (literal_at p b)) 1 0
own_worth f p true k e = rw e (omega arith)
own_worth f p false k e = rw e (omega arith)

count_cons : (f : ℤ → Bool) (l : ℤ) (ls : List ℤ) → count_by f (l ∷ ls) ≡ cond (f l) 1 0 + count_by f ls
count_cons f l ls = sum_by-cons (λ x. cond (f x) 1 0) l ls

count_sum : (f : ℤ → Bool) (n : ℕ) (ls : List ℤ) → Reads f → Differ ls → last_variable (each_once ls) ≤ n → sum_below n (worth f (coefficient_at (each_once ls))) ≡ pos (count_by f ls)
count_sum f n [] r h m = sum_below-zero n (worth f (coefficient_at [])) (record { at = λ p. refl })
count_sum f n (l ∷ ls) r h m =
    let q = place l in
    let u = worth f (coefficient_at (each_once (l ∷ ls))) in
    let v = worth f (coefficient_at (each_once ls)) in
    let d : DiffersAt q u v = record { elsewhere = λ p ne. ap (λ k. pos (sum_where f (term_at p k))) (coefficient-elsewhere (l, pos 1) (each_once ls) p ne) } in
    let change = sum_below-change n q u v d (omega (arith, m)) in
    let none : v q ≡ pos 0 = ap (λ k. pos (sum_where f (term_at q k))) (none-zero q ls h.0) in
    let own : u q ≡ pos (cond (f l) 1 0) = ap pos (own_worth f q (is_positive l) _ (own-unit l ls h.0) ∙ ap (λ b. cond b 1 0) (r.at l)) in
    let rest = count_sum f n ls r h.1 (omega (arith, m)) in
    omega (arith, ints, change, none, own, rest, count_cons f l ls)

pub clause-sum : (f : ℤ → Bool) (ls : List ℤ) → Reads f → AreDifferent ls → sum_where f (clause_of ls).terms ≡ count_by f ls
unfolding constraint_of
clause-sum f ls r h =
    let n = last_variable (each_once ls) in
    omega (arith, ints, terms_sum f (coefficient_at (each_once ls)) n, count_sum f n ls r (different-differ ls h) (omega arith))

-- the slack of a clause
pub clause-slack : (a : Assignment) (ls : List ℤ) → AreDifferent ls → slack (clause_of ls) a ≡ pos (length (filter (is_open a) ls)) -ℤ pos 1
clause-slack a ls h =
    omega (arith, ints, (clause-plain ls h).degree, clause-sum (is_open a) ls (open-reads a) h, length-filter (is_open a) ls)
