-- What setting literals does, and what a constraint forces.
use Rattle.std.proofs.Common.{◌≡◌, ◌≢◌, ℕ, zero, suc, ◌<◌, ◌≤◌, ℤ, pos, negsuc, neg_ℤ, ◌<ℤ◌, Bool, true, not, Option, Some, None, List, [], ◌∷◌, length, get_or, get_or-set_same, get_or-set_other, length-set, arith, refl, sym, ap, ◌∙◌, inl, inr}
use Rattle.std.specs.Prelude.{int_lt, unsigned_abs, nat_lt}
use Rattle.std.proofs.lemmas.Int.{ints}
use Rattle.std.proofs.lemmas.Bool.{cases_Bool, and_parts, and_from, ltb-true}
use Rattle.ps_pb.specs.Assignments.{Assignment, place, is_positive, agree, with_sign, value_of, with_true, with_false, is_unset, Includes}
use Rattle.ps_pb.specs.Constraints.{HasTerm, is_forced, some_forced, with_forced}
use Rattle.ps_pb.specs.Weights.{weighted, are_rising}
use Rattle.ps_pb.proofs.Values.{includes-trans, signed-some, value-set, with_true-includes, agree-same, agree-is}
use Rattle.ps_pb.proofs.Forcing.{next_forced, with_forced-includes}

pub length-with_true : (a : Assignment) (l : ℤ) → length (with_true a l) ≡ length a
unfolding with_true
length-with_true a l = length-set a (place l) (Some (is_positive l))

-- the literal that was set is true
pub value-own : (a : Assignment) (l m : ℤ) → place m ≡ place l → place l < length a → value_of (with_true a l) m ≡ Some (agree (is_positive m) (is_positive l))
unfolding with_true value_of
value-own a l m e h = rw e (rw get_or-set_same refl)

pub value-true : (a : Assignment) (l : ℤ) → place l < length a → value_of (with_true a l) l ≡ Some true
value-true a l h = value-own a l l refl h ∙ ap Some (agree-same (is_positive l))

-- literals of one variable have values that fit
pub value-same : (a : Assignment) (l m : ℤ) → place m ≡ place l → value_of a l ≡ Some true → value_of a m ≡ Some (agree (is_positive m) (is_positive l))
unfolding value_of
value-same a l m e h = let s = signed-some _ _ _ h in rw (e, s.1) (ap (λ b. Some (agree (is_positive m) b)) (agree-is (is_positive l) s.0 s.2))

pub value-other : (a : Assignment) (l m : ℤ) → place m ≢ place l → value_of (with_true a l) m ≡ value_of a m
unfolding value_of with_true
value-other a l m ne = ap (with_sign (is_positive m)) (get_or-set_other a (place l) (place m) (Some (is_positive l)) None ne)

-- a literal is its own, or is of another variable
unset_by : (o p : Option Bool) → ((v : Bool) → p ≡ Some v → o ≡ Some v) → is_unset o ≡ true → is_unset p ≡ true
unset_by o None h e = refl
unset_by o (Some v) h e = absurd (cc (ap is_unset (h v refl)))

pub unset-below : (s t : Assignment) (l : ℤ) → Includes s t → is_unset (value_of s l) ≡ true → is_unset (value_of t l) ≡ true
unset-below s t l inc h = unset_by (value_of s l) (value_of t l) (inc.at l) h

-- a literal of no variable is its own opposite; each other one has the opposite sign
pub place-opposite : (l : ℤ) → place (neg_ℤ l) ≡ place l
place-opposite (pos zero) = refl
place-opposite (pos (suc n)) = refl
place-opposite (negsuc n) = refl

pub size-opposite : (l : ℤ) → unsigned_abs (neg_ℤ l) ≡ unsigned_abs l
size-opposite (pos zero) = refl
size-opposite (pos (suc n)) = refl
size-opposite (negsuc n) = refl

sign_opposite : (l : ℤ) → 1 ≤ unsigned_abs l → not (is_positive (neg_ℤ l)) ≡ is_positive l
sign_opposite (pos zero) h = absurd (omega arith)
sign_opposite (pos (suc n)) h = refl
sign_opposite (negsuc n) h = refl

pub opposite-false : (a : Assignment) (l : ℤ) → 1 ≤ unsigned_abs l → with_false a (neg_ℤ l) ≡ with_true a l
unfolding with_false with_true
opposite-false a l h = rw (place-opposite l, sign_opposite l h) refl

unset_signs : (p q : Bool) (o : Option Bool) → is_unset (with_sign p o) ≡ true → is_unset (with_sign q o) ≡ true
unset_signs p q None h = refl
unset_signs p q (Some b) h = absurd (cc)

pub unset-same : (a : Assignment) (l m : ℤ) → place m ≡ place l → is_unset (value_of a l) ≡ true → is_unset (value_of a m) ≡ true
unfolding value_of
unset-same a l m e u = rw e (unset_signs (is_positive l) (is_positive m) (get_or a (place l) None) u)

pub unset-both : (a : Assignment) (l : ℤ) → is_unset (value_of a l) ≡ true → is_unset (value_of a (neg_ℤ l)) ≡ true
unset-both a l u = unset-same a l (neg_ℤ l) (place-opposite l) u

pub lt-from : (a b : ℤ) → a <ℤ b → int_lt a b ≡ true
lt-from a b h = grind (arith, ints)

is_forced_at : (s : ℤ) (a : Assignment) (t : ℤ × ℕ) (l : ℤ) (k : ℕ) → (t.0 ≡ l) × (t.1 ≡ k) → is_unset (value_of a l) ≡ true → s <ℤ pos k → is_forced s a t ≡ true
is_forced_at s a t l k e u m = rw (e.0, e.1) (and_from (is_unset (value_of a l)) (int_lt s (pos k)) u (lt-from s (pos k) m))

-- a term that is forced makes some term forced
pub forced-some : (s : ℤ) (a : Assignment) (ts : List (ℤ × ℕ)) (l : ℤ) (k : ℕ) → HasTerm l k ts → is_unset (value_of a l) ≡ true → s <ℤ pos k → some_forced s a ts ≡ true
forced-some s a [] l k h u m = absurd h
forced-some s a (t ∷ ts) l k (inl e) u m = rw (is_forced_at s a t l k e u m) refl
forced-some s a (t ∷ ts) l k (inr h) u m = elim (cases_Bool (is_forced s a t)) [
  | inl f ↦ rw f refl
  | inr f ↦ rw f (forced-some s a ts l k h u m)
]

-- no term is of the variable at a place
abbrev pub HasNone : ℕ → List (ℤ × ℕ) → Type 0
HasNone p [] = Unit {0}
HasNone p (t ∷ ts) = (place t.0 ≢ p) × HasNone p ts

abbrev pub AreDistinct : List (ℤ × ℕ) → Type 0
AreDistinct [] = Unit {0}
AreDistinct (t ∷ ts) = HasNone (place t.0) ts × AreDistinct ts

none_above : (p n : ℕ) (ts : List (ℤ × ℕ)) → p < n → are_rising n (weighted ts) ≡ true → HasNone p ts
none_above p n [] h r = tt
none_above p n (t ∷ ts) h r =
    let b = and_parts (nat_lt n (unsigned_abs t.0)) (are_rising (unsigned_abs t.0) (weighted ts)) r in
    let more : n < unsigned_abs t.0 = ltb-true _ _ b.0 in
    (λ e. absurd (omega (arith, e, more, h)), none_above p (unsigned_abs t.0) ts (omega (arith, more, h)) b.1)

-- terms with rising variables are of different variables
pub rising-distinct : (n : ℕ) (ts : List (ℤ × ℕ)) → are_rising n (weighted ts) ≡ true → AreDistinct ts
rising-distinct n [] r = tt
rising-distinct n (t ∷ ts) r =
    let b = and_parts (nat_lt n (unsigned_abs t.0)) (are_rising (unsigned_abs t.0) (weighted ts)) r in
    let more : n < unsigned_abs t.0 = ltb-true _ _ b.0 in
    (none_above (place t.0) (unsigned_abs t.0) ts (omega (arith, more)) b.1, rising-distinct (unsigned_abs t.0) ts b.1)

none_at : (l : ℤ) (k p : ℕ) (ts : List (ℤ × ℕ)) → HasTerm l k ts → HasNone p ts → place l ≢ p
none_at l k p [] h n = absurd h
none_at l k p (t ∷ ts) (inl e) n = λ q. n.0 (ap place e.0 ∙ q)
none_at l k p (t ∷ ts) (inr h) n = none_at l k p ts h n.1

pub length_next : (s : ℤ) (a : Assignment) (t : ℤ × ℕ) → length (next_forced s a t) ≡ length a
length_next s a t = elim (cases_Bool (is_forced s a t)) [
  | inl e ↦ rw e (length-with_true a t.0)
  | inr e ↦ rw e refl
]

pub length-forced : (s : ℤ) (ts : List (ℤ × ℕ)) (a : Assignment) → length (with_forced s ts a) ≡ length a
length-forced s [] a = refl
length-forced s (t ∷ ts) a = length-forced s ts (next_forced s a t) ∙ length_next s a t

next_other : (s : ℤ) (a : Assignment) (t : ℤ × ℕ) (l : ℤ) → place l ≢ place t.0 → value_of (next_forced s a t) l ≡ value_of a l
next_other s a t l ne = elim (cases_Bool (is_forced s a t)) [
  | inl e ↦ rw e (value-other a t.0 l ne)
  | inr e ↦ rw e refl
]

next_own : (s : ℤ) (a : Assignment) (t : ℤ × ℕ) (l : ℤ) (k : ℕ) → (t.0 ≡ l) × (t.1 ≡ k) → is_unset (value_of a l) ≡ true → place l < length a → s <ℤ pos k → value_of (next_forced s a t) l ≡ Some true
next_own s a t l k e u p m = rw (is_forced_at s a t l k e u m) (rw e.0 (value-true a l p))

-- what is forced is true afterwards
pub forced-true : (s : ℤ) (ts : List (ℤ × ℕ)) (a : Assignment) (l : ℤ) (k : ℕ) → HasTerm l k ts → AreDistinct ts → is_unset (value_of a l) ≡ true → place l < length a → s <ℤ pos k → value_of (with_forced s ts a) l ≡ Some true
forced-true s [] a l k h d u p m = absurd h
forced-true s (t ∷ ts) a l k (inl e) d u p m = (with_forced-includes s ts (next_forced s a t)).at l true (next_own s a t l k e u p m)
forced-true s (t ∷ ts) a l k (inr h) d u p m =
    forced-true s ts (next_forced s a t) l k h d.1 (ap is_unset (next_other s a t l (none_at l k (place t.0) ts h d.0)) ∙ u) (rw (length_next s a t) p) m

pub includes-one : (s t : Assignment) (l : ℤ) → Includes s t → value_of s l ≡ Some true → Includes s (with_true t l)
unfolding with_true
includes-one s t l inc h = record {
  at = λ m v e. elim (value-set t (place l) (is_positive l) m v e) [
    | inl before ↦ inc.at m v before
    | inr now ↦ value-same s l m now.0 h ∙ ap Some (sym now.1)
  ];
}

pub includes-both : (s t : Assignment) (l : ℤ) → place l < length s → Includes s t → is_unset (value_of s l) ≡ true → Includes (with_true s l) (with_true t l)
includes-both s t l h inc u = includes-one (with_true s l) t l (includes-trans _ _ _ (with_true-includes s l u) inc) (value-true s l h)
