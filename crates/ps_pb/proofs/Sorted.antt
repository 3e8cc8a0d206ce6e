-- The clause of literals in the order of their variables.
use Rattle.std.proofs.Common.{◌≡◌, ℕ, zero, suc, ◌-◌, ◌<◌, ◌≤◌, ℤ, pos, negsuc, ◌+ℤ◌, ◌-ℤ◌, neg_ℤ, ◌≤ℤ◌, Bool, true, false, cond, List, [], ◌∷◌, ◌++◌, length, arith, refl, sym, ap, ◌∙◌, inl, inr}
use Rattle.std.specs.Prelude.{◌==◌, unsigned_abs, IsPermutation}
use Rattle.std.specs.List.{All, sum_by}
use Rattle.std.proofs.lemmas.Int.{ints}
use Rattle.std.proofs.lemmas.Bool.{cases_eq, and_parts, ltb-true}
use Rattle.std.proofs.lemmas.List.{append_assoc, append-nil}
use Rattle.std.proofs.lemmas.List.Elements.{All-nil, All-cons, All-head, All-tail}
use Rattle.std.proofs.lemmas.List.Sums.{sum_by-cons}
use Rattle.std.proofs.lemmas.List.Sorted.{IsPermutation-sym, All-permutation, length_permutation, sum_by-IsPermutation}
use Rattle.ps_pb.specs.Assignments.{place, is_positive}
use Rattle.ps_pb.specs.Weights.{Weighted, size_sum, constant_of, constant_part, coefficient_at, term_at, turned, terms_below, sum_below, last_variable, constraint_of, each_once, are_rising, terms_of, IsNormal}
use Rattle.ps_pb.proofs.Bounds.{each_once-length}
use Rattle.ps_pb.proofs.Linear.{DiffersAt, sum_below-change, sum_below-zero, coefficient-elsewhere, coefficient-own}
use Rattle.ps_pb.proofs.Filling.{SameBelow, sum_below-same, terms_below-same, constraint}

-- a literal of weight 1
abbrev pub IsOnce : (ℤ × ℤ) → Type 0
IsOnce t = t.1 ≡ pos 1

pub all_once : (ls : List ℤ) → All IsOnce (each_once ls)
all_once [] = All-nil IsOnce
all_once (l ∷ ls) = All-cons IsOnce (l, pos 1) (each_once ls) refl (all_once ls)

pub once-size : (ts : Weighted) → All IsOnce ts → size_sum ts ≡ length ts
once-size [] a = refl
once-size (t ∷ ts) a = omega (arith, ints, All-head IsOnce t ts a, once-size ts (All-tail IsOnce t ts a))

-- ---- the order of the literals doesn't matter
-- the literals at a place that have a sign
abbrev counted : ℕ → Bool → (ℤ × ℤ) → ℕ
counted p true t = cond (place t.0 == p) (cond (is_positive t.0) 1 0) 0
counted p false t = cond (place t.0 == p) (cond (is_positive t.0) 0 1) 0

part_split : (here sign : Bool) (k : ℤ) → k ≡ pos 1 → cond here (cond sign k (neg_ℤ k)) (pos 0) ≡ pos (cond here (cond sign 1 0) 0) -ℤ pos (cond here (cond sign 0 1) 0)
part_split true true k e = rw e (omega (arith, ints))
part_split true false k e = rw e (omega (arith, ints))
part_split false sign k e = omega (arith, ints)

coefficient-split : (p : ℕ) (ts : Weighted) → All IsOnce ts → coefficient_at ts p ≡ pos (sum_by (counted p true) ts) -ℤ pos (sum_by (counted p false) ts)
coefficient-split p [] a = omega (arith, ints)
coefficient-split p (t ∷ ts) a =
    let part = part_split (place t.0 == p) (is_positive t.0) t.1 (All-head IsOnce t ts a) in
    let rest = coefficient-split p ts (All-tail IsOnce t ts a) in
    omega (arith, ints, part, rest, sum_by-cons (counted p true) t ts, sum_by-cons (counted p false) t ts)

abbrev negative : (ℤ × ℤ) → ℕ
negative t = cond (is_positive t.0) 0 1

constant_split : (sign : Bool) (k : ℤ) → k ≡ pos 1 → cond sign (pos 0) k ≡ pos (cond sign 0 1)
constant_split true k e = refl
constant_split false k e = e

constant-split : (ts : Weighted) → All IsOnce ts → constant_of ts ≡ pos (sum_by negative ts)
constant-split [] a = refl
constant-split (t ∷ ts) a =
    let part = constant_split (is_positive t.0) t.1 (All-head IsOnce t ts a) in
    omega (arith, ints, part, constant-split ts (All-tail IsOnce t ts a), sum_by-cons negative t ts)

abbrev IsUpTo : ℕ → (ℤ × ℤ) → Type 0
IsUpTo n t = suc (place t.0) ≤ n

up_to_last : (ts : Weighted) (n : ℕ) → last_variable ts ≤ n → All (IsUpTo n) ts
up_to_last [] n h = All-nil (IsUpTo n)
up_to_last (t ∷ ts) n h = All-cons (IsUpTo n) t ts (omega (arith, h)) (up_to_last ts n (omega (arith, h)))

last_up_to : (ts : Weighted) (n : ℕ) → All (IsUpTo n) ts → last_variable ts ≤ n
last_up_to [] n a = omega arith
last_up_to (t ∷ ts) n a = omega (arith, All-head (IsUpTo n) t ts a, last_up_to ts n (All-tail (IsUpTo n) t ts a))

last_no_less : (ts us : Weighted) → IsPermutation ts us → last_variable us ≤ last_variable ts
last_no_less ts us m = last_up_to us (last_variable ts) (All-permutation (IsUpTo (last_variable ts)) ts us m (up_to_last ts (last_variable ts) (omega arith)))

last_permuted : (ts us : Weighted) → IsPermutation ts us → last_variable us ≡ last_variable ts
last_permuted ts us m = omega (arith, last_no_less ts us m, last_no_less us ts (IsPermutation-sym ts us m))

coefficient_permuted : (p : ℕ) (ts us : Weighted) → IsPermutation ts us → All IsOnce ts → coefficient_at us p ≡ coefficient_at ts p
coefficient_permuted p ts us m a =
    let here = coefficient-split p ts a in
    let there = coefficient-split p us (All-permutation IsOnce ts us m a) in
    omega (arith, ints, here, there, sum_by-IsPermutation (counted p true) ts us m, sum_by-IsPermutation (counted p false) ts us m)

constant_permuted : (ts us : Weighted) → IsPermutation ts us → All IsOnce ts → constant_of us ≡ constant_of ts
constant_permuted ts us m a =
    omega (arith, ints, constant-split ts a, constant-split us (All-permutation IsOnce ts us m a), sum_by-IsPermutation negative ts us m)

pub constraint_permuted : (ts us : Weighted) (least : ℤ) → IsPermutation ts us → All IsOnce ts → constraint_of us least ≡ constraint_of ts least
unfolding constraint_of
constraint_permuted ts us least m a =
    let n = last_variable ts in
    let same : SameBelow n (coefficient_at us) (coefficient_at ts) = record { each = λ p h. coefficient_permuted p ts us m a } in
    let turns : SameBelow n (λ p. turned (coefficient_at us p)) (λ p. turned (coefficient_at ts p)) = record { each = λ p h. ap turned (coefficient_permuted p ts us m a) } in
    rw (last_permuted ts us m, terms_below-same n _ _ same, sum_below-same n _ _ turns, constant_permuted ts us m a) refl

-- ---- rising variables
-- what is above a number, and what rises above it
rising_head : (above : ℕ) (t : ℤ × ℤ) (ts : Weighted) → are_rising above (t ∷ ts) ≡ true → above < unsigned_abs t.0
rising_head above t ts r = ltb-true above (unsigned_abs t.0) (and_parts _ _ r).0

rising_tail : (above : ℕ) (t : ℤ × ℤ) (ts : Weighted) → are_rising above (t ∷ ts) ≡ true → are_rising (unsigned_abs t.0) ts ≡ true
rising_tail above t ts r = (and_parts _ _ r).1

none_below : (above p : ℕ) (ts : Weighted) → are_rising above ts ≡ true → p < above → coefficient_at ts p ≡ pos 0
none_below above p [] r h = refl
none_below above p (t ∷ ts) r h =
    let head = rising_head above t ts r in
    coefficient-elsewhere t ts p (λ e. absurd (omega (arith, head, h, e))) ∙ none_below (unsigned_abs t.0) p ts (rising_tail above t ts r) (omega (arith, head, h))

terms_none : (n : ℕ) (f : ℕ → ℤ) → ((p : ℕ) → p < n → f p ≡ pos 0) → terms_below n f ≡ []
terms_none zero f z = refl
terms_none (suc p) f z = rw (z p (omega arith), terms_none p f (λ q h. z q (omega (arith, h)))) refl

-- one more term in front
terms_front : (n q : ℕ) (f g : ℕ → ℤ) → DiffersAt q f g → ((p : ℕ) → p ≤ q → g p ≡ pos 0) → q < n → terms_below n f ≡ term_at q (f q) ++ terms_below n g
terms_front zero q f g d z h = absurd (omega (arith, h))
terms_front (suc p) q f g d z h = elim (cases_eq p q) [
  | inl e ↦ at_end e
  | inr ne ↦ (
      let rest = terms_front p q f g d z (omega (arith, h, ne)) in
      rw (rest, d.elsewhere p ne) (append_assoc (term_at q (f q)) (terms_below p g) (term_at p (g p))))
]
  where
    no_f : terms_below q f ≡ []
    no_f = terms_none q f (λ x less. d.elsewhere x (λ e. absurd (omega (arith, less, e))) ∙ z x (omega (arith, less)))

    at_end : p ≡ q → terms_below (suc p) f ≡ term_at q (f q) ++ terms_below (suc p) g
    at_end e =
        let left : terms_below (suc p) f ≡ term_at q (f q) = rw (e, no_f) refl in
        let no_g : terms_below (suc p) g ≡ [] = terms_none (suc p) g (λ x less. z x (omega (arith, less, e))) in
        left ∙ sym (ap (λ xs. term_at q (f q) ++ xs) no_g ∙ append-nil (term_at q (f q)))

own_term : (l : ℤ) (k c : ℤ) → 1 ≤ unsigned_abs l → k ≡ pos 1 → c ≡ pos 0 → term_at (place l) (cond (is_positive l) k (neg_ℤ k) +ℤ c) ≡ (l, unsigned_abs k) ∷ []
own_term (pos zero) k c h e z = absurd (omega (arith, h))
own_term (pos (suc n)) k c h e z = let p : suc n - 1 ≡ n = omega arith in rw (e, z, p) refl
own_term (negsuc n) k c h e z = let p : suc n - 1 ≡ n = omega arith in rw (e, z, p) refl

rising_terms : (above n : ℕ) (ts : Weighted) → are_rising above ts ≡ true → All IsOnce ts → last_variable ts ≤ n → terms_below n (coefficient_at ts) ≡ terms_of ts
rising_terms above n [] r a h = terms_none n (coefficient_at []) (λ p less. refl)
rising_terms above n (t ∷ ts) r a h =
    let q = place t.0 in
    let head = rising_head above t ts r in
    let tail = rising_tail above t ts r in
    let none : (p : ℕ) → p ≤ q → coefficient_at ts p ≡ pos 0 = λ p le. none_below (unsigned_abs t.0) p ts tail (omega (arith, le, head)) in
    let d : DiffersAt q (coefficient_at (t ∷ ts)) (coefficient_at ts) = record { elsewhere = λ p ne. coefficient-elsewhere t ts p ne } in
    let own : term_at q (coefficient_at (t ∷ ts) q) ≡ (t.0, unsigned_abs t.1) ∷ [] = ap (term_at q) (coefficient-own t ts) ∙ own_term t.0 t.1 (coefficient_at ts q) (omega (arith, head)) (All-head IsOnce t ts a) (none q (omega arith)) in
    let rest = rising_terms (unsigned_abs t.0) n ts tail (All-tail IsOnce t ts a) (omega (arith, h)) in
    terms_front n q (coefficient_at (t ∷ ts)) (coefficient_at ts) d none (omega (arith, h))
    ∙ ap (λ (xs : List (ℤ × ℕ)). xs ++ terms_below n (coefficient_at ts)) own ∙ ap (λ (xs : List (ℤ × ℕ)). (t.0, unsigned_abs t.1) ∷ xs) rest

turned_own : (sign : Bool) (k c : ℤ) → k ≡ pos 1 → c ≡ pos 0 → turned (cond sign k (neg_ℤ k) +ℤ c) ≡ cond sign (pos 0) k
turned_own true k c e z = rw (e, z) refl
turned_own false k c e z = rw (e, z) refl

rising_turns : (above n : ℕ) (ts : Weighted) → are_rising above ts ≡ true → All IsOnce ts → last_variable ts ≤ n → sum_below n (λ p. turned (coefficient_at ts p)) ≡ constant_of ts
rising_turns above n [] r a h = sum_below-zero n (λ p. turned (coefficient_at [] p)) (record { at = λ p. refl })
rising_turns above n (t ∷ ts) r a h =
    let q = place t.0 in
    let head = rising_head above t ts r in
    let tail = rising_tail above t ts r in
    let none : coefficient_at ts q ≡ pos 0 = none_below (unsigned_abs t.0) q ts tail (omega (arith, head)) in
    let f : ℕ → ℤ = λ p. turned (coefficient_at (t ∷ ts) p) in
    let g : ℕ → ℤ = λ p. turned (coefficient_at ts p) in
    let d : DiffersAt q f g = record { elsewhere = λ p ne. ap turned (coefficient-elsewhere t ts p ne) } in
    let change = sum_below-change n q f g d (omega (arith, h)) in
    let gone : g q ≡ pos 0 = ap turned none in
    let own : f q ≡ constant_part t = ap turned (coefficient-own t ts) ∙ turned_own (is_positive t.0) t.1 (coefficient_at ts q) (All-head IsOnce t ts a) none in
    let rest = rising_turns (unsigned_abs t.0) n ts tail (All-tail IsOnce t ts a) (omega (arith, h)) in
    omega (arith, ints, change, gone, own, rest)

-- literals of rising variables are the terms of their clause
pub rising_constraint : (ts : Weighted) → are_rising 0 ts ≡ true → All IsOnce ts → constraint_of ts (pos 1) ≡ constraint (terms_of ts) (pos 1)
unfolding constraint_of
rising_constraint ts r a =
    let n = last_variable ts in
    let turns = rising_turns 0 n ts r a (omega arith) in
    let degree : ((pos 1 -ℤ constant_of ts) +ℤ sum_below n (λ p. turned (coefficient_at ts p))) ≡ pos 1 = omega (arith, ints, turns) in
    rw (rising_terms 0 n ts r a (omega arith), degree) refl

-- ---- the literals as sorted
pub sorted_once : (ls : List ℤ) (us : Weighted) → IsPermutation (each_once ls) us → All IsOnce us
sorted_once ls us m = All-permutation IsOnce (each_once ls) us m (all_once ls)

pub sorted_size : (ls : List ℤ) (us : Weighted) → IsPermutation (each_once ls) us → size_sum us ≡ length ls
sorted_size ls us m = once-size us (sorted_once ls us m) ∙ length_permutation (each_once ls) us m ∙ each_once-length ls

positive_once : (us : Weighted) → All IsOnce us → All (λ t. pos 1 ≤ℤ t.1) us
positive_once us a = λ i d h. (let e = a i d h in omega (arith, ints, e))

pub sorted_normal : (ls : List ℤ) (us : Weighted) → IsPermutation (each_once ls) us → are_rising 0 us ≡ true → length ls ≤ 64 → IsNormal us (pos 1)
sorted_normal ls us m r few = record {
  positive = positive_once us (sorted_once ls us m);
  rising = r;
  narrow = omega (arith, sorted_size ls us m, few);
}

pub sorted_clause : (ls : List ℤ) (us : Weighted) → IsPermutation (each_once ls) us → constraint_of us (pos 1) ≡ constraint_of (each_once ls) (pos 1)
sorted_clause ls us m = constraint_permuted (each_once ls) us (pos 1) m (all_once ls)

pub rising_clause : (ls : List ℤ) (us : Weighted) → IsPermutation (each_once ls) us → are_rising 0 us ≡ true → constraint (terms_of us) (pos 1) ≡ constraint_of (each_once ls) (pos 1)
rising_clause ls us m r = sym (rising_constraint us r (sorted_once ls us m)) ∙ sorted_clause ls us m
