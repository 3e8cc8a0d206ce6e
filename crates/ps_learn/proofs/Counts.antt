-- How many literals of a clause aren't false, and what follows.
use Rattle.std.proofs.Common.{◌≡◌, ◌≢◌, ℕ, ◌+◌, ◌≤◌, ℤ, pos, ◌-ℤ◌, ◌≤ℤ◌, Bool, true, false, cond, ◌&&◌, List, [], ◌∷◌, ◌++◌, length, arith, refl, sym, ap, ◌∙◌, inl, inr}
use Rattle.std.specs.Prelude.{int_lt, Contains, All}
use Rattle.std.specs.List.{filter}
use Rattle.std.proofs.lemmas.Int.{ints}
use Rattle.std.proofs.lemmas.Bool.{cases_Bool}
use Rattle.std.proofs.lemmas.List.Elements.{All-head, All-tail}
use Rattle.ps_pb.specs.Assignments.{Assignment, place, value_of, is_unset, AreDifferent}
use Rattle.ps_pb.specs.Constraints.{Constraint, is_open, HasTerm, Forces, slack, is_violated, is_forced, some_forced}
use Rattle.ps_pb.specs.Weights.{clause_of}
use Rattle.ps_pb.proofs.Clauses.{Differ, HasNoneAt, clause-plain, clause-slack}
use Rattle.ps_pb.proofs.Setting.{forced-some, lt-from}
use Rattle.ps_clause.specs.Decided.{IsIdle}
use Rattle.ps_learn.proofs.Terms.{contains-here, contains-later, contains-cases, contains-none}

-- how many pass a test
pub passes : (f : ℤ → Bool) (ls : List ℤ) → ℕ
passes f ls = length (filter f ls)

abbrev pub one_if : Bool → ℕ
one_if b = cond b 1 0

one_true : (b : Bool) → b ≡ true → one_if b ≡ 1
one_true b e = ap one_if e

one_false : (b : Bool) → b ≡ false → one_if b ≡ 0
one_false b e = ap one_if e

pass_cons : (f : ℤ → Bool) (l : ℤ) (ls : List ℤ) → passes f (l ∷ ls) ≡ one_if (f l) + passes f ls
unfolding passes
pass_cons f l ls = elim (cases_Bool (f l)) [
  | inl e ↦ rw e (omega arith)
  | inr e ↦ rw e (omega arith)
]

pub pass-one : (f : ℤ → Bool) (ls : List ℤ) (l : ℤ) → Contains ls l → f l ≡ true → 1 ≤ passes f ls
pass-one f [] l h t = absurd (contains-none l h)
pass-one f (m ∷ ls) l h t = elim (contains-cases m ls l h) [
  | inl e ↦ (let q : f m ≡ true = ap f e ∙ t in omega (arith, pass_cons f m ls, one_true _ q))
  | inr r ↦ omega (arith, pass_cons f m ls, pass-one f ls l r t)
]

pub pass-two : (f : ℤ → Bool) (ls : List ℤ) (l m : ℤ) → Contains ls l → f l ≡ true → f m ≡ true → 2 ≤ passes f (ls ++ m ∷ [])
pass-two f [] l m h t u = absurd (contains-none l h)
pass-two f (x ∷ ls) l m h t u = elim (contains-cases x ls l h) [
  | inl e ↦ (let q : f x ≡ true = ap f e ∙ t in omega (arith, pass_cons f x (ls ++ m ∷ []), one_true _ q, last ls))
  | inr r ↦ omega (arith, pass_cons f x (ls ++ m ∷ []), pass-two f ls l m r t u)
]
  where
    last : (ls : List ℤ) → 1 ≤ passes f (ls ++ m ∷ [])
    last [] = omega (arith, pass_cons f m [], one_true _ u)
    last (y ∷ ls) = omega (arith, pass_cons f y (ls ++ m ∷ []), last ls)

digit_no : (b : Bool) → (b ≡ true → ⊥) → one_if b ≡ 0
digit_no true h = absurd (h refl)
digit_no false h = refl

-- none passes
pub pass-none : (f : ℤ → Bool) (ls : List ℤ) → ((l : ℤ) → Contains ls l → f l ≡ true → ⊥) → passes f ls ≡ 0
unfolding passes
pass-none f [] h = refl
pass-none f (l ∷ ls) h = omega (arith, pass_cons f l ls, digit_no (f l) (h l (contains-here l ls)), pass-none f ls (λ m c. h m (contains-later l ls m c)))

none_at : (p : ℕ) (ls : List ℤ) (l : ℤ) → HasNoneAt p ls → Contains ls l → place l ≢ p
none_at p [] l n h = absurd (contains-none l h)
none_at p (m ∷ ls) l n h = elim (contains-cases m ls l h) [
  | inl e ↦ (λ q. n.0 (ap place e ∙ q))
  | inr r ↦ none_at p ls l n.1 r
]

-- of literals of different variables at most one passes, where all that pass are of one variable
pub pass-most : (f : ℤ → Bool) (p : ℕ) (ls : List ℤ) → Differ ls → ((l : ℤ) → Contains ls l → f l ≡ true → place l ≡ p) → passes f ls ≤ 1
unfolding passes
pass-most f p [] d h = omega arith
pass-most f p (l ∷ ls) d h = elim (cases_Bool (f l)) [
  | inl t ↦ (let none : passes f ls ≡ 0 = pass-none f ls (λ m c u. none_at (place l) ls m d.0 c (h m (contains-later l ls m c) u ∙ sym (h l (contains-here l ls) t))) in
      omega (arith, pass_cons f l ls, none, digit (f l)))
  | inr n ↦ omega (arith, pass_cons f l ls, one_false _ n, pass-most f p ls d.1 (λ m c. h m (contains-later l ls m c)))
]
  where
    digit : (b : Bool) → one_if b ≤ 1
    digit true = omega arith
    digit false = omega arith

-- one that passes, if any does
pub pass-some : (f : ℤ → Bool) (ls : List ℤ) → 1 ≤ passes f ls → (l : ℤ) × Contains ls l × (f l ≡ true)
unfolding passes
pass-some f [] h = absurd (omega (arith, h))
pass-some f (l ∷ ls) h = elim (cases_Bool (f l)) [
  | inl t ↦ (l, contains-here l ls, t)
  | inr n ↦ (let r = pass-some f ls (omega (arith, h, pass_cons f l ls, one_false _ n)) in (r.0, contains-later l ls r.0 r.1, r.2))
]

-- ---- clauses
pub slack-is : (a : Assignment) (ls : List ℤ) → AreDifferent ls → slack (clause_of ls) a ≡ pos (passes (is_open a) ls) -ℤ pos 1
unfolding passes
slack-is a ls d = clause-slack a ls d

not_less : (s t : ℤ) → t ≤ℤ s → int_lt s t ≡ false
not_less s t h = grind (arith, ints)

none_forced : (s : ℤ) (a : Assignment) (ts : List (ℤ × ℕ)) → pos 1 ≤ℤ s → All (λ t. t.1 ≡ 1) ts → some_forced s a ts ≡ false
none_forced s a [] h one = refl
none_forced s a (t ∷ ts) h one =
    let q : t.1 ≡ 1 = All-head (λ (t : ℤ × ℕ). t.1 ≡ 1) t ts one in
    let no : is_forced s a t ≡ false = by_less (is_unset (value_of a t.0)) (int_lt s (pos t.1)) (not_less s (pos t.1) (omega (arith, ints, h, q))) in
    rw no (none_forced s a ts h (All-tail (λ (t : ℤ × ℕ). t.1 ≡ 1) t ts one))
  where
    by_less : (x y : Bool) → y ≡ false → x && y ≡ false
    by_less true y e = e
    by_less false y e = refl

-- a clause with two literals that aren't false is idle
pub two-idle : (a : Assignment) (ls : List ℤ) → AreDifferent ls → 2 ≤ passes (is_open a) ls → IsIdle (clause_of ls) a
two-idle a ls d h =
    let s : pos 1 ≤ℤ slack (clause_of ls) a = omega (arith, ints, slack-is a ls d, h) in
    record {
      unviolated = not_less (slack (clause_of ls) a) (pos 0) (omega (arith, ints, s));
      unforced = none_forced (slack (clause_of ls) a) a (clause_of ls).terms s (clause-plain ls d).coefficients;
    }

-- a clause without such literals is violated
pub none-violated : (a : Assignment) (ls : List ℤ) → AreDifferent ls → passes (is_open a) ls ≡ 0 → is_violated (clause_of ls) a ≡ true
none-violated a ls d h = lt-from (slack (clause_of ls) a) (pos 0) (omega (arith, ints, slack-is a ls d, h))

-- a clause with one such literal isn't
pub some-unviolated : (a : Assignment) (ls : List ℤ) → AreDifferent ls → 1 ≤ passes (is_open a) ls → is_violated (clause_of ls) a ≡ false
some-unviolated a ls d h = not_less (slack (clause_of ls) a) (pos 0) (omega (arith, ints, slack-is a ls d, h))

-- a clause in which only one such literal stands, one without a value, forces it
pub one-forces : (a : Assignment) (ls : List ℤ) (l : ℤ) → AreDifferent ls → passes (is_open a) ls ≤ 1 → HasTerm l 1 (clause_of ls).terms → is_unset (value_of a l) ≡ true → Forces (clause_of ls) a l
one-forces a ls l d h term unset = record { coefficient = 1; term = term; unset = unset; more = omega (arith, ints, slack-is a ls d, h) }

pub forces-busy : (c : Constraint) (a : Assignment) (l : ℤ) → Forces c a l → IsIdle c a → ⊥
forces-busy c a l f idle = cc (forced-some (slack c a) a c.terms l f.coefficient f.term f.unset f.more, idle.unforced)
