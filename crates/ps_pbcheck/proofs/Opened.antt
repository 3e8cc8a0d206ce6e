-- What a clause does to an assignment, by its literals that aren't false.
use Rattle.std.proofs.Common.{◌≡◌, ℕ, suc, ◌+◌, ◌≤◌, ℤ, pos, Bool, true, false, cond, not, Option, Some, None, List, [], ◌∷◌, ◌++◌, length, get_or, take, drop, ◌<◌, arith, refl, sym, ap, ◌∙◌, inl, inr}
use Rattle.std.specs.Prelude.{int_lt, ◌-ℤ◌, ◌&&◌, ◌==◌, is_some}
use Rattle.std.specs.List.{All, count_by, filter}
use Rattle.std.proofs.lemmas.Int.{ints}
use Rattle.std.proofs.lemmas.Bool.{cases_Bool, and_parts, and_from, and_left, eqb-true, eq-eqb}
use Rattle.std.proofs.lemmas.List.Sums.{sum_by-cons, length-filter}
use Rattle.std.proofs.lemmas.List.Filters.{length-filter_more}
use Rattle.std.proofs.lemmas.List.Elements.{filter-append}
use Rattle.std.proofs.lemmas.List.{take-append-drop, length-append}
use Rattle.ps_pb.specs.Assignments.{Assignment, place, is_positive, agree, value_of, with_true, is_false, is_unset, Includes, AreDifferent}
use Rattle.ps_pb.specs.Constraints.{sum_where, is_open, slack, is_forced, some_forced, with_forced}
use Rattle.ps_pb.specs.Weights.{clause_of}
use Rattle.ps_pb.proofs.Clauses.{Reads, open-reads, place_of, sign_of, clause-plain, clause-slack, clause-sum}
use Rattle.ps_pb.proofs.Sums.{Implies, sum_where-le}
use Rattle.ps_pb.proofs.Values.{agree-same, agree-is, with_true-includes}
use Rattle.ps_pb.specs.declared.propagation.Effect.TheVariants.{Violated, Forced, Idle}
use Rattle.ps_pb.specs.Effects.{Propagates}

abbrev AreOnes : List (ℤ × ℕ) → Type 0
AreOnes [] = Unit {0}
AreOnes (t ∷ ts) = (t.1 ≡ 1) × AreOnes ts

ones : (ts : List (ℤ × ℕ)) → All (λ t. t.1 ≡ 1) ts → AreOnes ts
ones [] h = tt
ones (t ∷ ts) h = (h 0 t (omega arith), ones ts (λ i d k. h (suc i) d (omega (arith, k))))

-- ---- literals that are the same
-- whether two literals are of one variable and sign
abbrev is_same : ℤ → ℤ → Bool
is_same l m = (place m == place l) && agree (is_positive l) (is_positive m)

same_self : (l : ℤ) → is_same l l ≡ true
same_self l = and_from _ _ (eq-eqb (place l) (place l) refl) (agree-same (is_positive l))

same_parts : (l m : ℤ) → is_same l m ≡ true → (place m ≡ place l) × (is_positive m ≡ is_positive l)
same_parts l m e =
    let two = and_parts (place m == place l) (agree (is_positive l) (is_positive m)) e in
    (eqb-true (place m) (place l) two.0, agree-is (is_positive l) (is_positive m) two.1)

same_value : (a : Assignment) (l m : ℤ) → is_same l m ≡ true → value_of a m ≡ value_of a l
unfolding value_of
same_value a l m e = let two = same_parts l m e in rw (two.0, two.1) refl

same_true : (a : Assignment) (l m : ℤ) → is_same l m ≡ true → with_true a m ≡ with_true a l
unfolding with_true
same_true a l m e = let two = same_parts l m e in rw (two.0, two.1) refl

-- whether a literal isn't false and is this one
abbrev is_left : Assignment → ℤ → ℤ → Bool
is_left a l m = is_open a m && is_same l m

left_reads : (a : Assignment) (l : ℤ) → Reads (is_left a l)
unfolding value_of
left_reads a l = record { at = λ m. rw (place_of (place m) (is_positive m), sign_of (place m) (is_positive m)) refl }

left_open : (a : Assignment) (l : ℤ) → Implies (is_left a l) (is_open a)
left_open a l = record { at = λ m e. (and_parts (is_open a m) (is_same l m) e).0 }

-- where one literal alone isn't false, it counts 1
abbrev worth : Bool → ℕ
worth b = cond b 1 0

count_cons : (f : ℤ → Bool) (l : ℤ) (ls : List ℤ) → count_by f (l ∷ ls) ≡ cond (f l) 1 0 + count_by f ls
count_cons f l ls = sum_by-cons (λ x. cond (f x) 1 0) l ls

count_both : (f g : ℤ → Bool) (ls : List ℤ) → count_by (λ m. f m && g m) ls ≡ count_by g (filter f ls)
count_both f g [] = refl
count_both f g (l ∷ ls) = elim (cases_Bool (f l)) [
  | inl e ↦ count_cons (λ m. f m && g m) l ls ∙ ap (λ b. worth (b && g l) + count_by (λ m. f m && g m) ls) e ∙ ap (λ n. worth (g l) + n) (count_both f g ls)
      ∙ sym (count_cons g l (filter f ls)) ∙ ap (λ b. count_by g (cond b (l ∷ filter f ls) (filter f ls))) (sym e)
  | inr e ↦ count_cons (λ m. f m && g m) l ls ∙ ap (λ b. worth (b && g l) + count_by (λ m. f m && g m) ls) e ∙ none (count_by (λ m. f m && g m) ls) ∙ count_both f g ls
      ∙ ap (λ b. count_by g (cond b (l ∷ filter f ls) (filter f ls))) (sym e)
]
  where
    none : (n : ℕ) → 0 + n ≡ n
    none n = omega arith

-- ---- values
open_unset : (o : Option Bool) → not (is_false o) ≡ false → is_unset o ≡ false
open_unset None e = absurd (cc)
open_unset (Some b) e = refl

closed_value : (o : Option Bool) → not (is_false o) ≡ false → o ≡ Some false
closed_value None e = absurd (cc)
closed_value (Some true) e = absurd (cc)
closed_value (Some false) e = refl

-- a term that is false isn't forced
closed_idle : (s : ℤ) (a : Assignment) (t : ℤ × ℕ) → is_open a t.0 ≡ false → is_forced s a t ≡ false
closed_idle s a t e = and_left (is_unset (value_of a t.0)) (int_lt s (pos t.1)) (open_unset (value_of a t.0) e)

-- with all false terms nothing is set, nor with more values
closed_stay : (s : ℤ) (a b : Assignment) (ts : List (ℤ × ℕ)) → Includes b a → AreOnes ts → sum_where (is_open a) ts ≡ 0 → with_forced s ts b ≡ b
closed_stay s a b [] inc o e = refl
closed_stay s a b (t ∷ ts) inc o e = elim (cases_Bool (is_open a t.0)) [
  | inl f ↦ absurd (omega (arith, rw f at e, o.0))
  | inr f ↦ (let there = inc.at t.0 false (closed_value (value_of a t.0) f) in
      let idle = closed_idle s b t (rw there refl) in
      let rest : sum_where (is_open a) ts ≡ 0 = (let e' = rw f at e in omega (arith, e')) in
      rw idle (closed_stay s a b ts inc o.1 rest))
]

-- ---- one literal that isn't false
pub record SetsOne (a : Assignment) (l : ℤ) (ts : List (ℤ × ℕ)) : Type 0 where
  pub some : some_forced (pos 0) a ts ≡ true
  pub sets : with_forced (pos 0) ts a ≡ with_true a l

one_less : (k n m : ℕ) → k ≡ 1 → k + n ≡ 1 → m ≤ n → m ≡ 0
one_less k n m e f g = omega (arith, e, f, g)

forced_one : (a : Assignment) (t : ℤ × ℕ) → t.1 ≡ 1 → is_unset (value_of a t.0) ≡ true → is_forced (pos 0) a t ≡ true
forced_one a t o u = and_from (is_unset (value_of a t.0)) (int_lt (pos 0) (pos t.1)) u (rw o refl)

sets_one : (a : Assignment) (l : ℤ) (ts : List (ℤ × ℕ)) → AreOnes ts → sum_where (is_open a) ts ≡ 1 → sum_where (is_left a l) ts ≡ 1 → is_unset (value_of a l) ≡ true → SetsOne a l ts
sets_one a l [] o e f u = absurd (omega (arith, e))
sets_one a l (t ∷ ts) o e f u = elim (cases_Bool (is_open a t.0)) [
  | inl g ↦ (let e' = rw g at e in
      let rest : sum_where (is_open a) ts ≡ 0 = omega (arith, e', o.0) in
      let left : sum_where (is_left a l) ts ≡ 0 = omega (arith, rest, sum_where-le (is_left a l) (is_open a) ts (left_open a l)) in
      elim (cases_Bool (is_same l t.0)) [
        | inl same ↦ (let unset : is_unset (value_of a t.0) ≡ true = ap is_unset (same_value a l t.0 same) ∙ u in
            let forced = forced_one a t o.0 unset in
            record {
              some = rw forced refl;
              sets = rw forced (closed_stay (pos 0) a (with_true a t.0) ts (with_true-includes a t.0 unset) o.1 rest ∙ same_true a l t.0 same);
            })
        | inr other ↦ (let f' = rw (g, other) at f in absurd (omega (arith, f', left)))
      ])
  | inr g ↦ (let idle = closed_idle (pos 0) a t g in
      let count : sum_where (is_open a) ts ≡ 1 = (let e' = rw g at e in omega (arith, e')) in
      let left : sum_where (is_left a l) ts ≡ 1 = (let f' = rw g at f in omega (arith, f')) in
      let rest = sets_one a l ts o.1 count left u in
      record { some = rw idle rest.some; sets = rw idle rest.sets })
]

-- each term that isn't false is this literal, which is true
true_idle : (s : ℤ) (a : Assignment) (l : ℤ) (ts : List (ℤ × ℕ)) → AreOnes ts → sum_where (is_open a) ts ≡ sum_where (is_left a l) ts → is_unset (value_of a l) ≡ false → some_forced s a ts ≡ false
true_idle s a l [] o e u = refl
true_idle s a l (t ∷ ts) o e u = elim (cases_Bool (is_open a t.0)) [
  | inl g ↦ elim (cases_Bool (is_same l t.0)) [
    | inl same ↦ (let set : is_unset (value_of a t.0) ≡ false = ap is_unset (same_value a l t.0 same) ∙ u in
        let idle = and_left (is_unset (value_of a t.0)) (int_lt s (pos t.1)) set in
        rw idle (true_idle s a l ts o.1 (let e' = rw (g, same) at e in omega (arith, e')) u))
    | inr other ↦ (let e' = rw (g, other) at e in
        absurd (omega (arith, e', o.0, sum_where-le (is_left a l) (is_open a) ts (left_open a l))))
  ]
  | inr g ↦ (let idle = closed_idle s a t g in
      let rest : sum_where (is_open a) ts ≡ sum_where (is_left a l) ts = (let e' = rw g at e in omega (arith, e')) in
      rw idle (true_idle s a l ts o.1 rest u))
]

-- more than one literal isn't false
many_idle : (s : ℤ) (a : Assignment) (ts : List (ℤ × ℕ)) → AreOnes ts → int_lt s (pos 1) ≡ false → some_forced s a ts ≡ false
many_idle s a [] o e = refl
many_idle s a (t ∷ ts) o e = elim (cases_Bool (is_unset (value_of a t.0))) [
  | inl u ↦ rw (u, o.0, e) (many_idle s a ts o.1 e)
  | inr u ↦ rw u (many_idle s a ts o.1 e)
]

-- ---- clauses
least_one : (n : ℕ) → 1 ≤ n → int_lt (pos n -ℤ pos 1) (pos 0) ≡ false
least_one n h = grind (arith, ints, h)

least_two : (n : ℕ) → 2 ≤ n → int_lt (pos n -ℤ pos 1) (pos 1) ≡ false
least_two n h = grind (arith, ints, h)

pub none-violated : (a : Assignment) (ls : List ℤ) → AreDifferent ls → filter (is_open a) ls ≡ [] → Propagates (clause_of ls) a a Violated
none-violated a ls d e = (rw (clause-slack a ls d, e) refl, refl)

pub many-idle : (a : Assignment) (ls : List ℤ) → AreDifferent ls → 2 ≤ length (filter (is_open a) ls) → Propagates (clause_of ls) a a Idle
many-idle a ls d e =
    let terms = ones (clause_of ls).terms (clause-plain ls d).coefficients in
    rw (clause-slack a ls d) (
      least_one (length (filter (is_open a) ls)) (omega (arith, e)),
      many_idle _ a (clause_of ls).terms terms (least_two (length (filter (is_open a) ls)) e),
      refl,
    )

-- the sums of a clause in which this literal alone isn't false
record HasOne (a : Assignment) (l : ℤ) (ls : List ℤ) : Type 0 where
  slack_is : slack (clause_of ls) a ≡ pos 0
  count : sum_where (is_open a) (clause_of ls).terms ≡ 1
  left : sum_where (is_left a l) (clause_of ls).terms ≡ 1

has_one : (a : Assignment) (l : ℤ) (ls : List ℤ) → AreDifferent ls → filter (is_open a) ls ≡ l ∷ [] → HasOne a l ls
has_one a l ls d e = record {
  slack_is = clause-slack a ls d ∙ ap (λ x. pos (length x) -ℤ pos 1) e;
  count = clause-sum (is_open a) ls (open-reads a) d ∙ open_count ls e;
  left = clause-sum (is_left a l) ls (left_reads a l) d ∙ left_count ls e;
}
  where
    open_count : (ks : List ℤ) → filter (is_open a) ks ≡ l ∷ [] → count_by (is_open a) ks ≡ 1
    open_count ks e = sym (length-filter (is_open a) ks) ∙ ap length e

    left_count : (ks : List ℤ) → filter (is_open a) ks ≡ l ∷ [] → count_by (is_left a l) ks ≡ 1
    left_count ks e =
        count_both (is_open a) (is_same l) ks ∙ ap (count_by (is_same l)) e ∙ count_cons (is_same l) l [] ∙ ap (λ b. worth b + count_by (is_same l) []) (same_self l)

pub one-forced : (a : Assignment) (l : ℤ) (ls : List ℤ) → AreDifferent ls → filter (is_open a) ls ≡ l ∷ [] → is_unset (value_of a l) ≡ true → Propagates (clause_of ls) a (with_true a l) Forced
one-forced a l ls d e u =
    let h = has_one a l ls d e in
    let sets = sets_one a l (clause_of ls).terms (ones (clause_of ls).terms (clause-plain ls d).coefficients) h.count h.left u in
    rw h.slack_is (refl, sets.some, sym sets.sets)

pub one-idle : (a : Assignment) (l : ℤ) (ls : List ℤ) → AreDifferent ls → filter (is_open a) ls ≡ l ∷ [] → is_unset (value_of a l) ≡ false → Propagates (clause_of ls) a a Idle
one-idle a l ls d e u =
    let h = has_one a l ls d e in
    let terms = ones (clause_of ls).terms (clause-plain ls d).coefficients in
    rw h.slack_is (refl, true_idle (pos 0) a l (clause_of ls).terms terms (h.count ∙ sym h.left) u, refl)

-- a literal that isn't false behind another one
pub several : (p : ℤ → Bool) (ls : List ℤ) (i : ℕ) (d : ℤ) → i < length ls → 1 ≤ length (filter p (take i ls)) → p (get_or ls i d) ≡ true → 2 ≤ length (filter p ls)
several p ls i d h one passes =
    let all : filter p (take (i + 1) ls) ++ filter p (drop (i + 1) ls) ≡ filter p ls = sym (filter-append p (take (i + 1) ls) (drop (i + 1) ls)) ∙ ap (filter p) (take-append-drop (i + 1) ls) in
    let count = length-filter_more p ls i d h ∙ ap (λ b. length (filter p (take i ls)) + worth b) passes in
    omega (arith, one, count, ap length all, length-append (filter p (take (i + 1) ls)) (filter p (drop (i + 1) ls)))

-- a value that is there
pub some-set : (o : Option Bool) → is_some o ≡ true → is_unset o ≡ false
some-set None e = absurd (cc)
some-set (Some b) e = refl

pub none-unset : (o : Option Bool) → is_some o ≡ false → is_unset o ≡ true
none-unset None e = refl
none-unset (Some b) e = absurd (cc)
