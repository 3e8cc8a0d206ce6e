-- The kept literals in the trail's order: all but the last are below the trail's level.
use Rattle.std.proofs.Common.{◌≡◌, ℕ, suc, ◌+◌, ◌<◌, ◌≤◌, ℤ, neg_ℤ, true, Some, List, [], ◌∷◌, ◌++◌, take, arith, refl, sym, ap, ◌∙◌, ◌⊎◌, inl, inr}
use Rattle.std.specs.Prelude.{slice_get}
use Rattle.std.specs.List.{All}
use Rattle.std.proofs.lemmas.List.Elements.{All-nil, All-push, All-head, All-tail}
use Rattle.std.proofs.lemmas.Bool.{cases_lt}
use Rattle.std.proofs.Math.Nat.{max-eq_right, max-eq_left, max-le}
use Rattle.ps_learn.specs.Trails.{TrailEntry, Trail, decisions, level, AreFresh, AreLevels}
use Rattle.ps_learn.specs.Levels.{level_at, greatest_level, IsAsserting}
use Rattle.ps_learn.specs.Causes.{Marks, is_marked}
use Rattle.ps_learn.specs.Keeping.{IsKeptOnce}
use Rattle.ps_learn.proofs.TrailDistinct.{level-opposite, level-most}
use Rattle.ps_learn.proofs.Levels.{decisions-more}
use Rattle.ps_learn.proofs.Keeping.{before-level}

-- the level of a literal is below a number, or at most it
abbrev pub Under : List TrailEntry → ℕ → ℤ → Type 0
Under es n l = level_at es l < n

abbrev pub UpTo : List TrailEntry → ℕ → ℤ → Type 0
UpTo es n l = level_at es l ≤ n

-- an entry of the trail's level was kept before a place
pub record HasLast (t : Trail) (kept : Marks) (i : ℕ) : Type 0 where
  pub place : ℕ
  pub entry : TrailEntry
  pub before : place < i
  pub there : slice_get t.entries place ≡ Some entry
  pub own : is_marked kept entry.lit ≡ true
  pub level_is : entry.level ≡ level t

-- how far the literals have come: the greatest of their levels, and that of all but the last one
pub record Asserted (t : Trail) (kept : Marks) (i : ℕ) (lits : List ℤ) (last next : ℕ) : Type 0 where
  pub up_to : All (UpTo t.entries last) lits
  pub last_is : greatest_level t.entries lits ≡ last
  pub bound : last ≤ decisions (take i t.entries)
  pub clause : IsAsserting t lits next
  pub free : All (Under t.entries (level t)) lits ⊎ HasLast t kept i

pub asserted-none : (t : Trail) (kept : Marks) → Asserted t kept 0 [] 0 0
asserted-none t kept = record {
  up_to = All-nil (UpTo t.entries 0);
  last_is = refl;
  bound = omega arith;
  clause = record { others = []; last = []; split = refl; one = omega arith; above = All-nil (λ l. 1 ≤ level_at t.entries l); below = All-nil (Under t.entries (level t)); next_is = refl };
  free = inl (All-nil (Under t.entries (level t)));
}

pub asserted-skip : (t : Trail) (kept : Marks) (i : ℕ) (lits : List ℤ) (last next : ℕ) → Asserted t kept i lits last next → Asserted t kept (i + 1) lits last next
asserted-skip t kept i lits last next a = record {
  up_to = a.up_to;
  last_is = a.last_is;
  bound = omega (arith, a.bound, decisions-more t.entries i (i + 1) (omega arith));
  clause = a.clause;
  free = elim a.free [
    | inl all ↦ inl all
    | inr h ↦ inr (record { place = h.place; entry = h.entry; before = omega (arith, h.before); there = h.there; own = h.own; level_is = h.level_is })
  ];
}

greatest_last : (es : List TrailEntry) (ls : List ℤ) (m : ℤ) → All (UpTo es (level_at es m)) ls → greatest_level es (ls ++ m ∷ []) ≡ level_at es m
greatest_last es [] m h = max-eq_left (omega arith)
greatest_last es (l ∷ ls) m h = rw (greatest_last es ls m (All-tail (UpTo es (level_at es m)) l ls h)) (max-eq_right (All-head (UpTo es (level_at es m)) l ls h))

wider : (es : List TrailEntry) (n m : ℕ) (ls : List ℤ) → n ≤ m → All (UpTo es n) ls → All (UpTo es m) ls
wider es n m ls h a = λ k d lt. omega (arith, h, a k d lt)

lower : (es : List TrailEntry) (n m : ℕ) (ls : List ℤ) → n < m → All (UpTo es n) ls → All (Under es m) ls
lower es n m ls h a = λ k d lt. omega (arith, h, a k d lt)

-- all of before are below the trail's level where one more is kept
all_below : (t : Trail) (kept : Marks) (i : ℕ) (lits : List ℤ) (last next : ℕ) (e : TrailEntry) → AreLevels t.entries → IsKeptOnce t kept → Asserted t kept i lits last next → slice_get t.entries i ≡ Some e → is_marked kept e.lit ≡ true → All (Under t.entries (level t)) lits
all_below t kept i lits last next e f k a q m = elim a.free [
  | inl all ↦ all
  | inr h ↦ (let le : h.entry.level ≤ decisions (take i t.entries) = before-level t.entries i h.place h.entry f h.before h.there in
      let up : decisions (take i t.entries) ≤ decisions (take (suc i) t.entries) = decisions-more t.entries i (suc i) (omega arith) in
      let top : e.level ≡ level t = omega (arith, le, up, f.at i e q, h.level_is, level-most t.entries i e f q) in
      absurd (cc (h.own, k.one i h.place e h.entry h.before q h.there top h.level_is m)))
]

-- one more literal is kept
pub asserted-keep : (t : Trail) (kept : Marks) (i : ℕ) (lits : List ℤ) (last next : ℕ) (e : TrailEntry) → AreFresh t.variables t.entries → AreLevels t.entries → IsKeptOnce t kept → Asserted t kept i lits last next → slice_get t.entries i ≡ Some e → is_marked kept e.lit ≡ true → Asserted t kept (i + 1) (lits ++ neg_ℤ e.lit ∷ []) e.level last
asserted-keep t kept i lits last next e f g k a q m =
    let es = t.entries in
    let own : level_at es (neg_ℤ e.lit) ≡ e.level = level-opposite t.variables es i e f q in
    let up : last ≤ e.level = omega (arith, a.bound, g.at i e q, decisions-more es i (suc i) (omega arith)) in
    let all : All (UpTo es e.level) lits = wider es last e.level lits up a.up_to in
    let here : UpTo es e.level (neg_ℤ e.lit) = omega (arith, own) in
    let next_bound : e.level ≤ decisions (take (i + 1) es) = omega (arith, g.at i e q, ap (λ n. decisions (take n es)) (one_more i)) in
    record {
      up_to = All-push (UpTo es e.level) lits (neg_ℤ e.lit) all here;
      last_is = greatest_last es lits (neg_ℤ e.lit) (rw own all) ∙ own;
      bound = next_bound;
      clause = record {
        others = lits;
        last = neg_ℤ e.lit ∷ [];
        split = refl;
        one = omega arith;
        above = All-push (λ l. 1 ≤ level_at es l) lits (neg_ℤ e.lit) a.clause.above (omega (arith, own, k.above i e q m));
        below = all_below t kept i lits last next e g k a q m;
        next_is = sym a.last_is;
      };
      free = elim (cases_lt e.level (level t)) [
        | inl lt ↦ inl (lower es e.level (level t) (lits ++ neg_ℤ e.lit ∷ []) lt (All-push (UpTo es e.level) lits (neg_ℤ e.lit) all here))
        | inr ge ↦ inr (record { place = i; entry = e; before = omega arith; there = q; own = m; level_is = omega (arith, ge, level-most es i e g q) })
      ];
    }
  where
    one_more : (i : ℕ) → i + 1 ≡ suc i
    one_more i = omega arith

-- the greatest level of literals below the trail's level is at most that
pub greatest-most : (es : List TrailEntry) (n : ℕ) (ls : List ℤ) → All (Under es n) ls → greatest_level es ls ≤ n
greatest-most es n [] h = omega arith
greatest-most es n (l ∷ ls) h = max-le (omega (arith, All-head (Under es n) l ls h)) (greatest-most es n ls (All-tail (Under es n) l ls h))

pub asserting-most : (t : Trail) (lits : List ℤ) (next : ℕ) → IsAsserting t lits next → next ≤ level t
asserting-most t lits next a = rw a.next_is (greatest-most t.entries (level t) a.others a.below)
