-- The goal's slack, one literal on or back.
use Rattle.std.proofs.Common.{◌≡◌, ◌≢◌, ℕ, zero, suc, ◌+◌, ◌*◌, ◌<◌, ◌≤◌, ◌==◌, ℤ, pos, neg_ℤ, ◌+ℤ◌, ◌-ℤ◌, ◌≤ℤ◌, ◌<ℤ◌, Bool, true, false, cond, not, Option, Some, None, List, [], ◌∷◌, length, length-set, get_or, set, drop, arith, refl, sym, ap, subst, ◌∙◌, inl, inr, unsigned_abs}
use Rattle.std.specs.Prelude.{int_lt, is_some, replicate}
use Rattle.std.specs.List.{All}
use Rattle.std.proofs.lemmas.Int.{ints}
use Rattle.std.proofs.lemmas.List.{drop_all, length-replicate}
use Rattle.std.proofs.lemmas.List.Sorted.{All-permutation, IsPermutation-sym}
use Rattle.std.proofs.lemmas.Bool.{cases_Bool, cases_eq, cases_lt, and_parts, false_from_ne_true}
use Rattle.ps_pb.specs.declared.limits.TheConstants.{MOST_SIZE}
use Rattle.ps_pb.specs.Assignments.{Assignment, place, is_positive, agree, value_of, with_true, is_false, is_unset}
use Rattle.ps_pb.specs.Constraints.{Constraint, HasTerm, Forces, sum_where, is_open, slack, is_forced, some_forced}
use Rattle.ps_pb.specs.Weights.{Weighted, weighted, size_sum, term_of, terms_of, IsNormal}
use Rattle.ps_pb.proofs.Setting.{place-opposite, value-own, value-other, value-true, unset-same, unset-both}
use Rattle.ps_pb.proofs.Forcing.{lt-of}
use Rattle.ps_pb.proofs.Bounds.{IsPositive}
use Rattle.ps_pb.proofs.Summed.{drop-item, sum_where-size}
use Rattle.ps_sat.specs.Watches.{slot_of}
use Rattle.ps_learn.specs.Trails.{Trail, values, IsFresh}
use Rattle.ps_sat.specs.Sights.{coefficient_of, size_of, AreCoefficients, AreByCoefficient, IsSight}
use Rattle.ps_sat.proofs.Linked.{read-set, read-other, read-at}
use Rattle.ps_sat.proofs.Visited.{value-slot, slot-small}
use Rattle.ps_sat.proofs.Followed.{opposite-false, sign_opposite}
use Rattle.ps_sat.proofs.Clauses.{unset-open, true-open}

-- ---- one literal more is true
closed_of : (o : Option Bool) → o ≡ Some false → not (is_false o) ≡ false
closed_of o e = rw e refl

slot-parts : (p q : ℕ) (x y : Bool) → p ≡ q → x ≡ y → p * 2 + cond x 1 0 ≡ q * 2 + cond y 1 0
slot-parts p q x y e f = rw (e, f) refl

eqb-true : (a b : ℕ) → (a == b) ≡ true → a ≡ b
eqb-true a b h = grind (arith, h)

eqb-false : (a b : ℕ) → (a == b) ≡ false → a ≢ b
eqb-false a b h = grind (arith, h)

agree-same : (x y : Bool) → x ≡ y → agree x y ≡ true
agree-same true true e = refl
agree-same false false e = refl
agree-same true false e = absurd (cc e)
agree-same false true e = absurd (cc e)

not-not : (x y : Bool) → x ≢ not y → x ≡ y
not-not true true h = refl
not-not false false h = refl
not-not true false h = absurd (h refl)
not-not false true h = absurd (h refl)

-- a literal of another list is as open as it was
open-other : (a : Assignment) (l m : ℤ) → 1 ≤ unsigned_abs l → place l < length a → is_unset (value_of a l) ≡ true → slot_of m ≢ slot_of (neg_ℤ l) → is_open (with_true a l) m ≡ is_open a m
open-other a l m one inside u d = elim (cases_eq (place m) (place l)) [
  | inr far ↦ ap (λ o. not (is_false o)) (value-other a l m far)
  | inl near ↦ (let sign : is_positive m ≡ is_positive l = not-not (is_positive m) (is_positive l) (λ e. d (slot-parts (place m) (place (neg_ℤ l)) (is_positive m) (is_positive (neg_ℤ l)) (near ∙ sym (place-opposite l)) (e ∙ ap not (sym (sign_opposite l one)) ∙ twice (is_positive (neg_ℤ l))))) in
      let now : value_of (with_true a l) m ≡ Some true = value-own a l m near inside ∙ ap Some (agree-same (is_positive m) (is_positive l) sign) in
      true-open (with_true a l) m now ∙ sym (unset-open a m (unset-same a l m near u)))
]
  where
    twice : (x : Bool) → not (not x) ≡ x
    twice true = refl
    twice false = refl

part-more : (a : Assignment) (l m : ℤ) (k : ℕ) → 1 ≤ unsigned_abs l → place l < length a → is_unset (value_of a l) ≡ true → cond (is_open (with_true a l) m) k 0 + cond (slot_of m == slot_of (neg_ℤ l)) k 0 ≡ cond (is_open a m) k 0
part-more a l m k one inside u = elim (cases_Bool (slot_of m == slot_of (neg_ℤ l))) [
  | inl y ↦ (let e = eqb-true (slot_of m) (slot_of (neg_ℤ l)) y in
      let now : value_of (with_true a l) m ≡ Some false = value-slot (with_true a l) m (neg_ℤ l) e ∙ opposite-false (with_true a l) l one (value-true a l inside) in
      let was : is_open a m ≡ true = unset-open a m (ap is_unset (value-slot a m (neg_ℤ l) e) ∙ unset-both a l u) in
      rw (y, closed_of (value_of (with_true a l) m) now, was) (omega arith))
  | inr y ↦ rw (y, open-other a l m one inside u (eqb-false (slot_of m) (slot_of (neg_ℤ l)) y)) (omega arith)
]

sum-more : (a : Assignment) (l : ℤ) (ts : List (ℤ × ℕ)) → 1 ≤ unsigned_abs l → place l < length a → is_unset (value_of a l) ≡ true → sum_where (is_open (with_true a l)) ts + sum_where (λ m. slot_of m == slot_of (neg_ℤ l)) ts ≡ sum_where (is_open a) ts
sum-more a l [] one inside u = omega arith
sum-more a l (t ∷ ts) one inside u = let p = part-more a l t.0 t.1 one inside u in let r = sum-more a l ts one inside u in omega (arith, p, r)

-- the slack loses the coefficient of the opposite
pub slack-more : (c : Constraint) (a : Assignment) (l : ℤ) → 1 ≤ unsigned_abs l → place l < length a → is_unset (value_of a l) ≡ true → slack c (with_true a l) +ℤ pos (coefficient_of c (slot_of (neg_ℤ l))) ≡ slack c a
slack-more c a l one inside u = let s = sum-more a l c.terms one inside u in omega (arith, ints, s)

terms-weighted : (ts : List (ℤ × ℕ)) → terms_of (weighted ts) ≡ ts
terms-weighted [] = refl
terms-weighted (t ∷ ts) = ap (λ r. t ∷ r) (terms-weighted ts)

-- a slack fits
pub slack-fits : (c : Constraint) (a : Assignment) → IsNormal (weighted c.terms) c.degree → unsigned_abs (slack c a) ≤ MOST_SIZE
slack-fits c a n =
    let s = sum_where-size (is_open a) (weighted c.terms) in
    let e = ap (sum_where (is_open a)) (terms-weighted c.terms) in
    omega (arith, ints, s, e, n.narrow)

pub coefficient-fits : (c : Constraint) (s : ℕ) → IsNormal (weighted c.terms) c.degree → coefficient_of c s ≤ MOST_SIZE
coefficient-fits c s n =
    let z = sum_where-size (λ m. slot_of m == s) (weighted c.terms) in
    let e = ap (sum_where (λ m. slot_of m == s)) (terms-weighted c.terms) in
    omega (arith, z, e, n.narrow)

-- ---- the coefficients, term by term
pub record AreFilledTo (v : ℕ) (ts : Weighted) (i : ℕ) (xs : List ℤ) : Type 0 where
  pub length_is : length xs ≡ v * 2
  pub each : (s : ℕ) → s < v * 2 → get_or xs s (pos 0) +ℤ pos (sum_where (λ l. slot_of l == s) (terms_of (drop i ts))) ≡ pos (sum_where (λ l. slot_of l == s) (terms_of ts))

zeros : (n s : ℕ) → get_or (replicate n (pos 0)) s (pos 0) ≡ pos 0
zeros zero s = refl
zeros (suc n) zero = refl
zeros (suc n) (suc s) = zeros n s

pub filled-first : (v n : ℕ) (ts : Weighted) (xs : List ℤ) → n ≡ v * 2 → xs ≡ replicate n (pos 0) → AreFilledTo v ts 0 xs
filled-first v n ts xs q e = record {
  length_is = rw e (length-replicate n (pos 0)) ∙ q;
  each = λ s h. (let z : get_or xs s (pos 0) ≡ pos 0 = rw e (zeros n s) in omega (arith, ints, z));
}

pub filled-last : (v : ℕ) (c : Constraint) (ts : Weighted) (i : ℕ) (xs : List ℤ) → terms_of ts ≡ c.terms → length ts ≤ i → AreFilledTo v ts i xs → AreCoefficients v c xs
filled-last v c ts i xs e h f = record {
  length_is = f.length_is;
  at = λ s less.
      let x = f.each s less in
      let none : sum_where (λ l. slot_of l == s) (terms_of (drop i ts)) ≡ 0 = rw (drop_all i ts h) refl in
      let same = ap (sum_where (λ l. slot_of l == s)) e in
      omega (arith, ints, x, none, same);
}

pub slot-inside : (v : ℕ) (ts : Weighted) (i : ℕ) (t : ℤ × ℤ) → All (λ t. place t.0 < v) ts → i < length ts → t ≡ get_or ts i t → slot_of t.0 < v * 2
slot-inside v ts i t h less e = slot-small (place t.0) v (is_positive t.0) (subst (λ (z : ℤ × ℤ). place z.0 < v) (sym e) (h i t less))

sum-drop : (g : ℤ → Bool) (ts : Weighted) (i : ℕ) → sum_where g (terms_of (drop i ts)) ≤ sum_where g (terms_of ts)
sum-drop g [] zero = omega arith
sum-drop g [] (suc i) = omega arith
sum-drop g (t ∷ ts) zero = omega arith
sum-drop g (t ∷ ts) (suc i) = let r = sum-drop g ts i in omega (arith, r)

self-eq : (n : ℕ) → (n == n) ≡ true
self-eq n = grind arith

item-sum : (ts : Weighted) (i : ℕ) (t : ℤ × ℤ) (s : ℕ) → i < length ts → t ≡ get_or ts i t → sum_where (λ l. slot_of l == s) (terms_of (drop i ts)) ≡ cond (slot_of t.0 == s) (unsigned_abs t.1) 0 + sum_where (λ l. slot_of l == s) (terms_of (drop (i + 1) ts))
item-sum ts i t s h e = ap (λ us. sum_where (λ l. slot_of l == s) (terms_of us)) (drop-item ts i t h e)

pub filled-size : (v : ℕ) (ts : Weighted) (i : ℕ) (t : ℤ × ℤ) (xs : List ℤ) → All IsPositive ts → i < length ts → t ≡ get_or ts i t → slot_of t.0 < v * 2 → AreFilledTo v ts i xs → (pos 0 ≤ℤ (get_or xs (slot_of t.0) (pos 0) +ℤ t.1)) × ((get_or xs (slot_of t.0) (pos 0) +ℤ t.1) ≤ℤ pos (size_sum ts))
filled-size v ts i t xs positive h e less f =
    let s = slot_of t.0 in
    let x = f.each s less in
    let own : IsPositive t = subst IsPositive (sym e) (positive i t h) in
    let all = sum_where-size (λ l. slot_of l == s) ts in
    let now : sum_where (λ l. slot_of l == s) (terms_of (drop i ts)) ≡ unsigned_abs t.1 + sum_where (λ l. slot_of l == s) (terms_of (drop (i + 1) ts)) = item-sum ts i t s h e ∙ ap (λ b. cond b (unsigned_abs t.1) 0 + sum_where (λ l. slot_of l == s) (terms_of (drop (i + 1) ts))) (self-eq s) in
    let low = sum-drop (λ l. slot_of l == s) ts i in
    (omega (arith, ints, x, own, low), omega (arith, ints, x, now, own, all))

pub filled-next : (v : ℕ) (ts : Weighted) (i : ℕ) (t : ℤ × ℤ) (xs ys : List ℤ) (x : ℤ) → All IsPositive ts → i < length ts → t ≡ get_or ts i t → slot_of t.0 < v * 2 → ys ≡ set xs (slot_of t.0) x → x ≡ get_or xs (slot_of t.0) (pos 0) +ℤ t.1 → AreFilledTo v ts i xs → AreFilledTo v ts (i + 1) ys
filled-next v ts i t xs ys x positive h e less q p f = record {
  length_is = ap length q ∙ length-set xs (slot_of t.0) x ∙ f.length_is;
  each = λ s below.
      let own : IsPositive t = subst IsPositive (sym e) (positive i t h) in
      let was = f.each s below in
      let now = item-sum ts i t s h e in
      elim (cases_eq (slot_of t.0) s) [
        | inl same ↦ (let mark : (slot_of t.0 == s) ≡ true = grind (arith, same) in
            let part = ap (λ b. cond b (unsigned_abs t.1) 0) mark in
            let less' : slot_of t.0 < length xs = omega (arith, less, f.length_is) in
            let read : get_or ys s (pos 0) ≡ x = rw (q, ← same) (read-set xs (slot_of t.0) x (pos 0) less') in
            let old : get_or xs (slot_of t.0) (pos 0) ≡ get_or xs s (pos 0) = ap (λ z. get_or xs z (pos 0)) same in
            omega (arith, ints, own, was, now, part, read, p, old))
        | inr other ↦ (let mark : (slot_of t.0 == s) ≡ false = grind (arith, other) in
            let part = ap (λ b. cond b (unsigned_abs t.1) 0) mark in
            let read : get_or ys s (pos 0) ≡ get_or xs s (pos 0) = rw q (read-other xs (slot_of t.0) s x (pos 0) (λ z. other (sym z))) in
            omega (arith, ints, was, now, part, read))
      ];
}

-- ---- the terms by rising coefficient
abbrev positive_term : (c : Constraint) (t : ℤ × ℤ) → Type 0
positive_term c t = HasTerm t.0 (unsigned_abs t.1) c.terms × (pos 1 ≤ℤ t.1)

own-terms : (us ts : List (ℤ × ℕ)) → ((l : ℤ) (k : ℕ) → HasTerm l k ts → HasTerm l k us) → (i : ℕ) (d : ℤ × ℤ) → i < length (weighted ts) → HasTerm (get_or (weighted ts) i d).0 (unsigned_abs (get_or (weighted ts) i d).1) us
own-terms us [] h i d less = absurd (omega (arith, less))
own-terms us (t ∷ ts) h zero d less = h t.0 t.1 (inl (refl, refl))
own-terms us (t ∷ ts) h (suc i) d less = own-terms us ts (λ l k z. h l k (inr z)) i d (omega (arith, less))

-- each is one of the constraint, and at least 1
pub sorted-term : (c : Constraint) (ts : Weighted) (i : ℕ) (t : ℤ × ℤ) → IsNormal (weighted c.terms) c.degree → AreByCoefficient c ts → i < length ts → t ≡ get_or ts i t → HasTerm t.0 (unsigned_abs t.1) c.terms × (pos 1 ≤ℤ t.1)
sorted-term c ts i t n b h e =
    let all : All (positive_term c) (weighted c.terms) = λ j d less. (own-terms c.terms c.terms (λ l k z. z) j d less, n.positive j d less) in
    subst (positive_term c) (sym e) (All-permutation (positive_term c) (weighted c.terms) ts b.same all i t h)

pub sorted-forces : (c : Constraint) (a : Assignment) (s : ℤ) (ts : Weighted) (i : ℕ) (t : ℤ × ℤ) → IsNormal (weighted c.terms) c.degree → AreByCoefficient c ts → s ≡ slack c a → i < length ts → t ≡ get_or ts i t → s <ℤ t.1 → is_unset (value_of a t.0) ≡ true → Forces c a t.0
sorted-forces c a s ts i t n b q h e more u =
    let own = sorted-term c ts i t n b h e in
    record { coefficient = unsigned_abs t.1; term = own.0; unset = u; more = (let p = own.1 in omega (arith, ints, q, p, more)) }

-- none of the terms from a place on is forced
abbrev pub AreUnforcedFrom : ℤ → Assignment → Weighted → ℕ → Type 0
AreUnforcedFrom s a ts n = (i : ℕ) (d : ℤ × ℤ) → n ≤ i → i < length ts → is_forced s a (term_of (get_or ts i d)) ≡ false

set-unforced : (s : ℤ) (a : Assignment) (t : ℤ × ℕ) → is_unset (value_of a t.0) ≡ false → is_forced s a t ≡ false
set-unforced s a t h = rw h refl

low-unforced : (s : ℤ) (a : Assignment) (t : ℤ × ℕ) → pos t.1 ≤ℤ s → is_forced s a t ≡ false
low-unforced s a t h = false_from_ne_true (is_forced s a t) (λ y. let two = and_parts (is_unset (value_of a t.0)) (int_lt s (pos t.1)) y in let less = lt-of s (pos t.1) two.1 in absurd (omega (arith, ints, h, less)))

pub unforced-more : (s : ℤ) (a : Assignment) (ts : Weighted) (n : ℕ) (t : ℤ × ℤ) → n < length ts → t ≡ get_or ts n t → is_unset (value_of a t.0) ≡ false → AreUnforcedFrom s a ts (n + 1) → AreUnforcedFrom s a ts n
unforced-more s a ts n t less e u h = λ i d le within. elim (cases_eq i n) [
  | inl q ↦ rw q (subst (λ (z : ℤ × ℤ). is_forced s a (term_of z) ≡ false) (e ∙ same-default ts n t d less) (set-unforced s a (term_of t) u))
  | inr q ↦ h i d (omega (arith, le, q)) within
]
  where
    same-default : (ts : Weighted) (n : ℕ) (t d : ℤ × ℤ) → n < length ts → get_or ts n t ≡ get_or ts n d
    same-default [] n t d h = absurd (omega (arith, h))
    same-default (x ∷ ts) zero t d h = refl
    same-default (x ∷ ts) (suc n) t d h = same-default ts n t d (omega (arith, h))

some-unforced : (s : ℤ) (a : Assignment) (ts : List (ℤ × ℕ)) → All (λ t. is_forced s a (term_of t) ≡ false) (weighted ts) → some_forced s a ts ≡ false
some-unforced s a [] h = refl
some-unforced s a (t ∷ ts) h = rw (h 0 (t.0, pos t.1) (omega arith)) (some-unforced s a ts (λ i d less. h (suc i) d (omega (arith, less))))

pub none-forced : (c : Constraint) (a : Assignment) (s : ℤ) (ts : Weighted) → AreByCoefficient c ts → s ≡ slack c a → AreUnforcedFrom s a ts 0 → some_forced (slack c a) a c.terms ≡ false
none-forced c a s ts b q h =
    let all : All (λ t. is_forced s a (term_of t) ≡ false) ts = λ i d less. h i d (omega arith) less in
    subst (λ z. some_forced z a c.terms ≡ false) q
    (some-unforced s a c.terms (All-permutation (λ t. is_forced s a (term_of t) ≡ false) ts (weighted c.terms) (IsPermutation-sym (weighted c.terms) ts b.same) all))

-- where a coefficient isn't above the slack, none before it is
pub none-below : (c : Constraint) (a : Assignment) (s : ℤ) (ts : Weighted) (n : ℕ) (t : ℤ × ℤ) → AreByCoefficient c ts → s ≡ slack c a → n < length ts → t ≡ get_or ts n t → pos 1 ≤ℤ t.1 → t.1 ≤ℤ s → AreUnforcedFrom s a ts (n + 1) → some_forced (slack c a) a c.terms ≡ false
none-below c a s ts n t b q less e one low h = none-forced c a s ts b q (λ i d _ within. elim (cases_lt n i) [
  | inl later ↦ h i d (omega (arith, later)) within
  | inr ge ↦ (let le = b.rising i n t ge less in
      let own : size_of t ≡ size_of (get_or ts n t) = ap size_of e in
      let same : size_of (get_or ts i d) ≡ size_of (get_or ts i t) = ap size_of (same-default ts i d t within) in
      low-unforced s a (term_of (get_or ts i d)) (omega (arith, ints, le, own, same, one, low)))
])
  where
    same-default : (ts : Weighted) (n : ℕ) (t d : ℤ × ℤ) → n < length ts → get_or ts n t ≡ get_or ts n d
    same-default [] n t d h = absurd (omega (arith, h))
    same-default (x ∷ ts) zero t d h = refl
    same-default (x ∷ ts) (suc n) t d h = same-default ts n t d (omega (arith, h))

-- ---- what is seen
-- the coefficient of the opposite, as it was read
opposite-read : (v : ℕ) (c : Constraint) (l k : ℤ) (xs : List ℤ) (p : ℕ) → AreCoefficients v c xs → place l < v → p ≡ slot_of (neg_ℤ l) → k ≡ get_or xs p k → (k ≡ pos (coefficient_of c (slot_of (neg_ℤ l)))) × (p < length xs)
opposite-read v c l k xs p f h e r =
    let low : slot_of (neg_ℤ l) < v * 2 = slot-small (place (neg_ℤ l)) v (is_positive (neg_ℤ l)) (rw (place-opposite l) h) in
    let less : p < length xs = omega (arith, e, low, f.length_is) in
    (sym (read-at xs p k (pos 0) less r) ∙ ap (λ z. get_or xs z (pos 0)) e ∙ f.at (slot_of (neg_ℤ l)) low, less)

-- one literal on
pub record IsLess (c : Constraint) (a : Assignment) (l s k : ℤ) : Type 0 where
  pub now : (s -ℤ k) ≡ slack c (with_true a l)
  pub slack_size : unsigned_abs s ≤ MOST_SIZE
  pub size : unsigned_abs k ≤ MOST_SIZE
  pub now_size : unsigned_abs (s -ℤ k) ≤ MOST_SIZE

pub seen-less : (v : ℕ) (c : Constraint) (a : Assignment) (l s k : ℤ) (xs : List ℤ) (p : ℕ) → length a ≡ v → IsNormal (weighted c.terms) c.degree → AreCoefficients v c xs → IsFresh v a l → s ≡ slack c a → p ≡ slot_of (neg_ℤ l) → k ≡ get_or xs p k → IsLess c a l s k
seen-less v c a l s k xs p size n f fresh q e r =
    let inside : place l < length a = omega (arith, size, fresh.within) in
    let read = (opposite-read v c l k xs p f fresh.within e r).0 in
    let more = slack-more c a l fresh.some inside fresh.unset in
    let now : (s -ℤ k) ≡ slack c (with_true a l) = omega (arith, ints, more, read, q) in
    let one = slack-fits c a n in
    let two = coefficient-fits c (slot_of (neg_ℤ l)) n in
    let three = slack-fits c (with_true a l) n in
    record {
      now = now;
      slack_size = rw q one;
      size = rw read two;
      now_size = rw now three;
    }

-- one literal back
pub record IsMore (c : Constraint) (a : Assignment) (s k : ℤ) : Type 0 where
  pub now : (s +ℤ k) ≡ slack c a
  pub slack_size : unsigned_abs s ≤ MOST_SIZE
  pub size : unsigned_abs k ≤ MOST_SIZE
  pub now_size : unsigned_abs (s +ℤ k) ≤ MOST_SIZE

pub seen-more : (v : ℕ) (c : Constraint) (a : Assignment) (l s : ℤ) (xs : List ℤ) (p : ℕ) → length a ≡ v → IsNormal (weighted c.terms) c.degree → AreCoefficients v c xs → IsFresh v a l → s ≡ slack c (with_true a l) → p ≡ slot_of (neg_ℤ l) → IsMore c a s (get_or xs p (pos 0))
seen-more v c a l s xs p size n f fresh q e =
    let inside : place l < length a = omega (arith, size, fresh.within) in
    let low : slot_of (neg_ℤ l) < v * 2 = slot-small (place (neg_ℤ l)) v (is_positive (neg_ℤ l)) (rw (place-opposite l) fresh.within) in
    let read : get_or xs p (pos 0) ≡ pos (coefficient_of c (slot_of (neg_ℤ l))) = ap (λ z. get_or xs z (pos 0)) e ∙ f.at (slot_of (neg_ℤ l)) low in
    let more = slack-more c a l fresh.some inside fresh.unset in
    let now : (s +ℤ get_or xs p (pos 0)) ≡ slack c a = omega (arith, ints, more, read, q) in
    let one = slack-fits c (with_true a l) n in
    let two = coefficient-fits c (slot_of (neg_ℤ l)) n in
    let three = slack-fits c a n in
    record {
      now = now;
      slack_size = rw q one;
      size = rw read two;
      now_size = rw now three;
    }

pub slot-read : (v : ℕ) (c : Constraint) (l : ℤ) (xs : List ℤ) (p : ℕ) → AreCoefficients v c xs → place l < v → p ≡ slot_of (neg_ℤ l) → p < length xs
slot-read v c l xs p f h e =
    let low : slot_of (neg_ℤ l) < v * 2 = slot-small (place (neg_ℤ l)) v (is_positive (neg_ℤ l)) (rw (place-opposite l) h) in
    omega (arith, e, low, f.length_is)

pub sight-more : (t u : Trail) (c : Constraint) (xs : List ℤ) (ts : Weighted) (s s' : ℤ) (l : ℤ) → IsSight t c xs ts s → u.variables ≡ t.variables → values u ≡ with_true (values t) l → s' ≡ slack c (with_true (values t) l) → IsSight u c xs ts s'
sight-more t u c xs ts s s' l h v e q = record {
  inside = rw v h.inside;
  normal = h.normal;
  filled = rw v h.filled;
  sorted = h.sorted;
  slack_is = q ∙ ap (slack c) (sym e);
}

pub sight-cut : (t u : Trail) (c : Constraint) (xs : List ℤ) (ts : Weighted) (s s' : ℤ) → IsSight t c xs ts s → u.variables ≡ t.variables → s' ≡ slack c (values u) → IsSight u c xs ts s'
sight-cut t u c xs ts s s' h v q = record {
  inside = rw v h.inside;
  normal = h.normal;
  filled = rw v h.filled;
  sorted = h.sorted;
  slack_is = q;
}

-- ---- whether there is a value
pub none-unset : (o : Option Bool) → is_some o ≡ false → is_unset o ≡ true
none-unset None h = refl
none-unset (Some b) h = absurd (cc h)

pub some-set : (o : Option Bool) → is_some o ≡ true → is_unset o ≡ false
some-set None h = absurd (cc h)
some-set (Some b) h = refl
