-- Clauses under partial assignments: which literals of them aren't false.
use Rattle.std.proofs.Common.{◌≡◌, ◌≢◌, ℕ, suc, ◌≤◌, ℤ, pos, ◌≤ℤ◌, ◌<ℤ◌, Bool, true, false, cond, not, Option, Some, None, List, [], ◌∷◌, arith, refl, sym, ap, subst, ◌∙◌, inl, inr, ◌⊎◌}
use Rattle.std.specs.Prelude.{int_lt, ◌-ℤ◌}
use Rattle.std.specs.List.{All}
use Rattle.std.specs.Ordering.{int_eq}
use Rattle.std.proofs.lemmas.Int.{ints}
use Rattle.std.proofs.lemmas.Bool.{cases_Bool, false_from_ne_true, and_parts}
use Rattle.ps_clause.proofs.Tidy.{same_int}
use Rattle.ps_pb.specs.Assignments.{Assignment, place, value_of, is_false, is_unset}
use Rattle.ps_pb.specs.Constraints.{Constraint, sum_where, is_open, slack, is_violated, is_forced, some_forced, HasTerm, Forces}
use Rattle.ps_pb.specs.Weights.{IsPlain}
use Rattle.ps_pb.proofs.Sums.{sum_where-gap}
use Rattle.ps_pb.proofs.Setting.{HasNone, AreDistinct}
use Rattle.ps_clause.specs.Decided.{IsIdle}
use Rattle.ps_sat.specs.WatchChoices.{some_open}

abbrev pub AreOnes : List (ℤ × ℕ) → Type 0
AreOnes [] = Unit {0}
AreOnes (t ∷ ts) = (t.1 ≡ 1) × AreOnes ts

ones : (ts : List (ℤ × ℕ)) → All (λ t. t.1 ≡ 1) ts → AreOnes ts
ones [] h = tt
ones (t ∷ ts) h = (h 0 t (omega arith), ones ts (λ i d k. h (suc i) d (omega (arith, k))))

one-of : (ts : List (ℤ × ℕ)) (l : ℤ) (k : ℕ) → AreOnes ts → HasTerm l k ts → k ≡ 1
one-of [] l k o h = absurd h
one-of (t ∷ ts) l k o h = elim h [ inl e ↦ sym e.1 ∙ o.0 | inr r ↦ one-of ts l k o.1 r ]

pub coefficient-one : (c : Constraint) (l : ℤ) (k : ℕ) → IsPlain c → HasTerm l k c.terms → k ≡ 1
coefficient-one c l k p h = one-of c.terms l k (ones c.terms p.coefficients) h

value_open : (o : Option Bool) → o ≡ Some true → not (is_false o) ≡ true
value_open o h = rw h refl

unset_open : (o : Option Bool) → is_unset o ≡ true → not (is_false o) ≡ true
unset_open None h = refl
unset_open (Some b) h = absurd (cc h)

open_value : (o : Option Bool) → o ≡ Some false → not (is_false o) ≡ true → ⊥
open_value o e h = absurd (cc (subst (λ z. not (is_false z) ≡ true) e h))

closed : (o : Option Bool) → not (is_false o) ≡ false → o ≡ Some false
closed None h = absurd (cc h)
closed (Some true) h = absurd (cc h)
closed (Some false) h = refl

pub true-open : (a : Assignment) (l : ℤ) → value_of a l ≡ Some true → is_open a l ≡ true
true-open a l h = value_open (value_of a l) h

pub unset-open : (a : Assignment) (l : ℤ) → is_unset (value_of a l) ≡ true → is_open a l ≡ true
unset-open a l h = unset_open (value_of a l) h

pub false-closed : (a : Assignment) (l : ℤ) → value_of a l ≡ Some false → is_open a l ≡ true → ⊥
false-closed a l e h = open_value (value_of a l) e h

pub closed-false : (a : Assignment) (l : ℤ) → is_open a l ≡ false → value_of a l ≡ Some false
closed-false a l h = closed (value_of a l) h

-- one literal that isn't false
sum-one-least : (g : ℤ → Bool) (ts : List (ℤ × ℕ)) (l : ℤ) → HasTerm l 1 ts → g l ≡ true → 1 ≤ sum_where g ts
sum-one-least g ts l h e =
    let r = sum_where-gap (λ _. false) g ts l 1 (record { at = λ x z. absurd (cc z) }) h refl e in
    omega (arith, r)

eq-self : (l : ℤ) → int_eq l l ≡ true
eq-self l = grind (arith, ints)

-- two of them
sum-two-least : (g : ℤ → Bool) (ts : List (ℤ × ℕ)) (l m : ℤ) → l ≢ m → HasTerm l 1 ts → HasTerm m 1 ts → g l ≡ true → g m ≡ true → 2 ≤ sum_where g ts
sum-two-least g ts l m ne h k e f =
    let own : ℤ → Bool = λ x. int_eq x l in
    let a = sum-one-least own ts l h (eq-self l) in
    let other : int_eq m l ≡ false = false_from_ne_true (int_eq m l) (λ z. ne (sym (same_int m l z))) in
    let b = sum_where-gap own g ts m 1 (record { at = λ x z. subst (λ y. g y ≡ true) (sym (same_int x l z)) e }) k other f in
    omega (arith, a, b)

sum-none : (g : ℤ → Bool) (ts : List (ℤ × ℕ)) → ((l : ℤ) (k : ℕ) → HasTerm l k ts → g l ≡ false) → sum_where g ts ≡ 0
sum-none g [] h = refl
sum-none g (t ∷ ts) h = rw (h t.0 t.1 (inl (refl, refl))) (let r = sum-none g ts (λ l k z. h l k (inr z)) in omega (arith, r))

has-none : (p : ℕ) (ts : List (ℤ × ℕ)) (l : ℤ) (k : ℕ) → HasNone p ts → HasTerm l k ts → place l ≢ p
has-none p [] l k n h = absurd h
has-none p (t ∷ ts) l k n h = elim h [ inl e ↦ (λ q. n.0 (ap place e.0 ∙ q)) | inr r ↦ has-none p ts l k n.1 r ]

sum-one-most : (g : ℤ → Bool) (ts : List (ℤ × ℕ)) (other : ℤ) → AreDistinct ts → AreOnes ts → ((l : ℤ) (k : ℕ) → HasTerm l k ts → g l ≡ true → l ≡ other) → sum_where g ts ≤ 1
sum-one-most g [] other d o h = omega arith
sum-one-most g (t ∷ ts) other d o h = elim (cases_Bool (g t.0)) [
  | inl e ↦ (let first = h t.0 t.1 (inl (refl, refl)) e in
      let none = sum-none g ts (λ l k z. false_from_ne_true (g l) (λ y. has-none (place t.0) ts l k d.0 z (ap place (h l k (inr z) y ∙ sym first)))) in
      rw e (omega (arith, none, o.0)))
  | inr e ↦ rw e (let r = sum-one-most g ts other d.1 o.1 (λ l k z y. h l k (inr z) y) in omega (arith, r))
]

-- the slack of a clause under two literals that aren't false, or one, or none
two-open : (c : Constraint) (a : Assignment) (l m : ℤ) → IsPlain c → l ≢ m → HasTerm l 1 c.terms → HasTerm m 1 c.terms → is_open a l ≡ true → is_open a m ≡ true → pos 1 ≤ℤ slack c a
two-open c a l m p ne h k e f =
    let s = sum-two-least (is_open a) c.terms l m ne h k e f in
    let d = p.degree in
    rw d (omega (arith, ints, s))

one-open : (c : Constraint) (a : Assignment) (l : ℤ) → IsPlain c → HasTerm l 1 c.terms → is_open a l ≡ true → pos 0 ≤ℤ slack c a
one-open c a l p h e =
    let s = sum-one-least (is_open a) c.terms l h e in
    let d = p.degree in
    rw d (omega (arith, ints, s))

unviolated : (s : ℤ) → pos 0 ≤ℤ s → int_lt s (pos 0) ≡ false
unviolated s h = grind (arith, ints, h)

not-below : (s : ℤ) → pos 1 ≤ℤ s → int_lt s (pos 1) ≡ true → ⊥
not-below s h e = grind (arith, ints, h, e)

unforced : (s : ℤ) (a : Assignment) (ts : List (ℤ × ℕ)) → ((l : ℤ) (k : ℕ) → HasTerm l k ts → is_forced s a (l, k) ≡ false) → some_forced s a ts ≡ false
unforced s a [] h = refl
unforced s a (t ∷ ts) h = rw (h t.0 t.1 (inl (refl, refl))) (unforced s a ts (λ l k z. h l k (inr z)))

three : (o : Option Bool) → (o ≡ Some true) ⊎ ((o ≡ Some false) ⊎ (is_unset o ≡ true))
three None = inr (inr refl)
three (Some true) = inl refl
three (Some false) = inr (inl refl)

-- where a literal isn't false, or its partner is true
idle-by : (c : Constraint) (a : Assignment) (m : ℤ) → IsPlain c → HasTerm m 1 c.terms → value_of a m ≡ Some true → IsIdle c a
idle-by c a m p h e = record {
  unviolated = unviolated (slack c a) (one-open c a m p h (true-open a m e));
  unforced = unforced (slack c a) a c.terms (λ l k z. false_from_ne_true _ (λ y.
      let two = and_parts (is_unset (value_of a l)) (int_lt (slack c a) (pos k)) y in
      let one = coefficient-one c l k p z in
      let ne : l ≢ m = λ q. absurd (cc (ap is_unset (sym e ∙ ap (value_of a) (sym q)), two.0)) in
      not-below (slack c a) (two-open c a l m p ne (subst (λ x. HasTerm l x c.terms) one z) h (unset-open a l two.0) (true-open a m e)) (subst (λ x. int_lt (slack c a) (pos x) ≡ true) one two.1)));
}

idle-two : (c : Constraint) (a : Assignment) (l m : ℤ) → IsPlain c → l ≢ m → HasTerm l 1 c.terms → HasTerm m 1 c.terms → is_open a l ≡ true → is_open a m ≡ true → IsIdle c a
idle-two c a l m p ne h k e f =
    let s = two-open c a l m p ne h k e f in
    record {
      unviolated = unviolated (slack c a) (omega (arith, ints, s));
      unforced = unforced (slack c a) a c.terms (λ x j z. false_from_ne_true _ (λ y.
          let two = and_parts (is_unset (value_of a x)) (int_lt (slack c a) (pos j)) y in
          not-below (slack c a) s (subst (λ q. int_lt (slack c a) (pos q) ≡ true) (coefficient-one c x j p z) two.1)));
    }

-- two watched literals of a clause: where one is false, the other is true
pub idle-pair : (c : Constraint) (a : Assignment) (l m : ℤ) → IsPlain c → l ≢ m → HasTerm l 1 c.terms → HasTerm m 1 c.terms → (value_of a l ≡ Some false → value_of a m ≡ Some true) → (value_of a m ≡ Some false → value_of a l ≡ Some true) → IsIdle c a
idle-pair c a l m p ne h k f g = elim (three (value_of a l)) [
  | inl t ↦ idle-by c a l p h t
  | inr r ↦ elim r [
    | inl no' ↦ idle-by c a m p k (f no')
    | inr u ↦ elim (three (value_of a m)) [
      | inl t ↦ idle-by c a m p k t
      | inr q ↦ elim q [
        | inl no' ↦ idle-by c a l p h (g no')
        | inr w ↦ idle-two c a l m p ne h k (unset-open a l u) (unset-open a m w)
      ]
    ]
  ]
]

-- where all literals of a clause are false
none-open : (a : Assignment) (ts : List (ℤ × ℕ)) (l : ℤ) (k : ℕ) → some_open a ts ≡ false → HasTerm l k ts → is_open a l ≡ false
none-open a [] l k n h = absurd h
none-open a (t ∷ ts) l k n h = elim (cases_Bool (is_open a t.0)) [
  | inl e ↦ absurd (cc (subst (λ z. (cond z true (some_open a ts)) ≡ false) e n))
  | inr e ↦ elim h [
    | inl q ↦ subst (λ z. is_open a z ≡ false) q.0 e
    | inr r ↦ none-open a ts l k (subst (λ z. (cond z true (some_open a ts)) ≡ false) e n) r
  ]
]

violated_at : (s : ℕ) → s ≡ 0 → int_lt (pos s -ℤ pos 1) (pos 0) ≡ true
violated_at s h = rw h refl

pub violated-none : (c : Constraint) (a b : Assignment) → a ≡ b → IsPlain c → some_open a c.terms ≡ false → is_violated c b ≡ true
violated-none c a b q p n =
    let none = sum-none (is_open a) c.terms (λ l k z. none-open a c.terms l k n z) in
    rw (← q, p.degree) (violated_at (sum_where (is_open a) c.terms) none)

-- no literal but one isn't false
pub record IsOnly (c : Constraint) (a : Assignment) (other : ℤ) : Type 0 where
  pub at : (l : ℤ) (k : ℕ) → HasTerm l k c.terms → is_open a l ≡ true → l ≡ other

below : (s : ℕ) → s ≤ 1 → (pos s -ℤ pos 1) <ℤ pos 1
below s h = omega (arith, ints, h)

pub forces-only : (c : Constraint) (a : Assignment) (other : ℤ) → IsPlain c → AreDistinct c.terms → HasTerm other 1 c.terms → IsOnly c a other → is_unset (value_of a other) ≡ true → Forces c a other
forces-only c a other p d h o u = record {
  coefficient = 1;
  term = h;
  unset = u;
  more = rw p.degree (below (sum_where (is_open a) c.terms) (sum-one-most (is_open a) c.terms other d (ones c.terms p.coefficients) o.at));
}

violated-at : (s : ℕ) → s ≡ 0 → int_lt (pos s -ℤ pos 1) (pos 0) ≡ true
violated-at s h = rw h refl

pub violated-only : (c : Constraint) (a : Assignment) (other : ℤ) → IsPlain c → IsOnly c a other → value_of a other ≡ Some false → is_violated c a ≡ true
violated-only c a other p o e =
    let none = sum-none (is_open a) c.terms (λ l k z. false_from_ne_true (is_open a l) (λ y. false-closed a l (ap (value_of a) (o.at l k z y) ∙ e) y)) in
    rw p.degree (violated-at (sum_where (is_open a) c.terms) none)
