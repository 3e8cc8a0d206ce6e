-- Where a level of a trail was opened, and what stood below it.
use Rattle.std.proofs.Common.{◌≡◌, ℕ, zero, suc, ◌+◌, ◌<◌, ◌≤◌, ℤ, Bool, true, false, cond, Option, Some, None, List, [], ◌∷◌, length, take, arith, refl, sym, ap, ◌∙◌, ◌⊎◌, inl, inr}
use Rattle.std.specs.Prelude.{slice_get, unsigned_abs, is_none}
use Rattle.std.specs.List.{filter}
use Rattle.std.proofs.lemmas.Bool.{cases_eq, cases_lt}
use Rattle.std.proofs.lemmas.List.{take_all}
use Rattle.std.proofs.lemmas.Option.{slice_get_within}
use Rattle.ps_pb.specs.Assignments.{place, is_positive, agree, value_of, with_true, is_unset}
use Rattle.ps_pb.proofs.Setting.{value-other, value-own, unset-same}
use Rattle.ps_pb.proofs.Lawful.{value-unset}
use Rattle.ps_learn.specs.Trails.{TrailEntry, Trail, values_of, decisions, up_to, entry_of, AreFresh, AreLevels}
use Rattle.ps_learn.specs.Levels.{level_at, level_or_zero}
use Rattle.ps_learn.proofs.Entries.{values-more, length-values}
use Rattle.ps_learn.proofs.Levels.{levels-rise, below}
use Rattle.ps_learn.proofs.Marking.{values-earlier, unset-earlier}
use Rattle.ps_learn.proofs.TrailDistinct.{entry-found, decisions-next}
use Rattle.ps_learn.proofs.Keeping.{before-level}

-- the entry that set a literal's variable
pub record SetAt (es : List TrailEntry) (l : ℤ) : Type 0 where
  pub at : ℕ
  pub entry : TrailEntry
  pub there : slice_get es at ≡ Some entry
  pub same : place l ≡ place entry.lit

pub entry-at : (es : List TrailEntry) (i : ℕ) → i < length es → (e : TrailEntry) × (slice_get es i ≡ Some e)
entry-at [] i h = absurd (omega arith)
entry-at (e ∷ es) zero h = (e, refl)
entry-at (e ∷ es) (suc i) h = entry-at es i (omega (arith, h))

set_by : (v : ℕ) (es : List TrailEntry) (n : ℕ) (l : ℤ) (x : Bool) → n ≤ length es → value_of (values_of v (take n es)) l ≡ Some x → SetAt es l
unfolding values_of
set_by v es zero l x h e = absurd (cc (value-unset v l, e))
set_by v es (suc n) l x h e =
    let r = entry-at es n (omega (arith, h)) in
    let one : suc n ≡ n + 1 = omega arith in
    let more : value_of (with_true (values_of v (take n es)) r.0.lit) l ≡ Some x = ap (λ a. value_of a l) (sym (ap (λ k. values_of v (take k es)) one ∙ values-more v es n r.0 r.1)) ∙ e in
    elim (cases_eq (place l) (place r.0.lit)) [
      | inl same ↦ record { at = n; entry = r.0; there = r.1; same = same }
      | inr ne ↦ set_by v es n l x (omega (arith, h)) (sym (value-other (values_of v (take n es)) r.0.lit l ne) ∙ more)
    ]

all_of : (es : List TrailEntry) → take (length es) es ≡ es
all_of es = take_all (length es) es (omega arith)

pub set-at : (v : ℕ) (es : List TrailEntry) (l : ℤ) (x : Bool) → value_of (values_of v es) l ≡ Some x → SetAt es l
set-at v es l x e = set_by v es (length es) l x (omega arith) (ap (λ r. value_of (values_of v r) l) (all_of es) ∙ e)

same_size : (l m : ℤ) → place l ≡ place m → 1 ≤ unsigned_abs l → 1 ≤ unsigned_abs m → unsigned_abs l ≡ unsigned_abs m
same_size l m e h k = omega (arith, e, h, k)

-- its level is that of the literal
pub set-level : (v : ℕ) (es : List TrailEntry) (l : ℤ) → AreFresh v es → 1 ≤ unsigned_abs l → (s : SetAt es l) → level_at es l ≡ s.entry.level
set-level v es l f h s =
    let e : unsigned_abs l ≡ unsigned_abs s.entry.lit = same_size l s.entry.lit s.same h (f.at s.at s.entry s.there).some in
    ap (λ n. level_or_zero (entry_of n es)) e ∙ ap level_or_zero (entry-found v es s.at s.entry f s.there)

-- the place of the literal that opened a level
pub record Opens (es : List TrailEntry) (n : ℕ) : Type 0 where
  pub place : ℕ
  pub entry : TrailEntry
  pub there : slice_get es place ≡ Some entry
  pub chosen : entry.reason ≡ None
  pub below : decisions (take place es) ≡ n

reason_cases : (o : Option ℕ) → (o ≡ None) ⊎ (is_none o ≡ false)
reason_cases None = inl refl
reason_cases (Some id) = inr refl

after_implied : (e : TrailEntry) (es : List TrailEntry) (n : ℕ) → is_none e.reason ≡ false → Opens es n → Opens (e ∷ es) n
after_implied e es n some r = record { place = suc r.place; entry = r.entry; there = r.there; chosen = r.chosen; below = rw some (omega (arith, r.below)) }

after_chosen : (e : TrailEntry) (es : List TrailEntry) (n : ℕ) → e.reason ≡ None → Opens es n → Opens (e ∷ es) (suc n)
after_chosen e es n none r = record { place = suc r.place; entry = r.entry; there = r.there; chosen = r.chosen; below = rw none (omega (arith, r.below)) }

fewer_implied : (e : TrailEntry) (es : List TrailEntry) (n : ℕ) → is_none e.reason ≡ false → n < decisions (e ∷ es) → n < decisions es
fewer_implied e es n some h = let h' : n < 0 + decisions es = rw some at h in omega (arith, h')

fewer_chosen : (e : TrailEntry) (es : List TrailEntry) (n : ℕ) → e.reason ≡ None → suc n < decisions (e ∷ es) → n < decisions es
fewer_chosen e es n none h = let h' : suc n < 1 + decisions es = rw none at h in omega (arith, h')

pub opens : (es : List TrailEntry) (n : ℕ) → n < decisions es → Opens es n
opens [] n h = absurd (omega (arith, h))
opens (e ∷ es) zero h = elim (reason_cases e.reason) [
  | inl none ↦ record { place = 0; entry = e; there = refl; chosen = none; below = refl }
  | inr some ↦ after_implied e es zero some (opens es zero (fewer_implied e es zero some h))
]
opens (e ∷ es) (suc n) h = elim (reason_cases e.reason) [
  | inl none ↦ after_chosen e es n none (opens es n (fewer_chosen e es n none h))
  | inr some ↦ after_implied e es (suc n) some (opens es (suc n) (fewer_implied e es (suc n) some h))
]

-- the literal that opened a level stands above that level
pub opening-level : (es : List TrailEntry) (i : ℕ) (e : TrailEntry) → AreLevels es → slice_get es i ≡ Some e → e.reason ≡ None → e.level ≡ decisions (take i es) + 1
opening-level es i e f q none = f.at i e q ∙ decisions-next es i e q ∙ ap (λ o. decisions (take i es) + cond (is_none o) 1 0) none

-- a literal of a lower level has its value before the level was opened
pub low-value : (v : ℕ) (es : List TrailEntry) (p : ℕ) (d : TrailEntry) (l : ℤ) (x : Bool) → AreFresh v es → AreLevels es → slice_get es p ≡ Some d → 1 ≤ unsigned_abs l → level_at es l < d.level → value_of (values_of v es) l ≡ Some x → value_of (values_of v (take p es)) l ≡ Some x
low-value v es p d l x f g q h low e =
    let s = set-at v es l x e in
    let own : level_at es l ≡ s.entry.level = set-level v es l f h s in
    let before : s.at < p = elim (cases_lt s.at p) [
      | inl lt ↦ lt
      | inr ge ↦ absurd (omega (arith, low, own, (levels-rise es g).at p s.at d s.entry ge q s.there))
    ] in
    let fresh = f.at s.at s.entry s.there in
    let one : values_of v (take (s.at + 1) es) ≡ with_true (values_of v (take s.at es)) s.entry.lit = values-more v es s.at s.entry s.there in
    let y : Bool = agree (is_positive l) (is_positive s.entry.lit) in
    let first : value_of (values_of v (take (s.at + 1) es)) l ≡ Some y = rw one (value-own (values_of v (take s.at es)) s.entry.lit l s.same (rw (length-values v (take s.at es)) fresh.within)) in
    let len : p < length es = slice_get_within es p d q in
    let then : value_of (values_of v (take p es)) l ≡ Some y = stays v es l y (s.at + 1) p f (omega (arith, before)) (omega (arith, len)) first in
    let last : value_of (values_of v (take (length es) es)) l ≡ Some y = stays v es l y p (length es) f (omega (arith, len)) (omega arith) then in
    let end : value_of (values_of v es) l ≡ Some y = ap (λ r. value_of (values_of v r) l) (sym (all_of es)) ∙ last in
    then ∙ sym end ∙ e
  where
    difference : (i j : ℕ) → i ≤ j → (n : ℕ) × (j ≡ i + n)
    difference zero j h = (j, omega arith)
    difference (suc i) zero h = absurd (omega arith)
    difference (suc i) (suc j) h = let r = difference i j (omega (arith, h)) in (r.0, omega (arith, r.1))

    stays : (v : ℕ) (es : List TrailEntry) (l : ℤ) (y : Bool) (i j : ℕ) → AreFresh v es → i ≤ j → j ≤ length es → value_of (values_of v (take i es)) l ≡ Some y → value_of (values_of v (take j es)) l ≡ Some y
    stays v es l y i j f h k e =
        let d = difference i j h in
        rw d.1 ((values-earlier v es i d.0 f (omega (arith, d.1, k))).at l y e)

-- a literal that is set, but not of a lower level, has no value before
pub high-unset : (v : ℕ) (es : List TrailEntry) (p : ℕ) (d : TrailEntry) (l : ℤ) → AreFresh v es → AreLevels es → slice_get es p ≡ Some d → d.reason ≡ None → 1 ≤ unsigned_abs l → SetAt es l → d.level ≤ level_at es l → is_unset (value_of (values_of v (take p es)) l) ≡ true
high-unset v es p d l f g q none h s high =
    let own : level_at es l ≡ s.entry.level = set-level v es l f h s in
    let after : p ≤ s.at = elim (cases_lt s.at p) [
      | inl lt ↦ absurd (omega (arith, high, own, before-level es p s.at s.entry g lt s.there, opening-level es p d g q none))
      | inr ge ↦ ge
    ] in
    unset-same (values_of v (take p es)) s.entry.lit l s.same (unset-earlier v es p s.at s.entry f after s.there)

-- what stands at a level or below it was set before the next level was opened
past : (es : List TrailEntry) (n : ℕ) → ((j : ℕ) (e : TrailEntry) → slice_get es j ≡ Some e → n < e.level) → filter (below n) es ≡ []
past [] n h = refl
past (e ∷ es) n h = let b : below n e ≡ false = grind (arith, h zero e refl) in rw b (past es n (λ j d q. h (suc j) d q))

filter_take : (n : ℕ) (es : List TrailEntry) (p : ℕ) → ((j : ℕ) (e : TrailEntry) → j < p → slice_get es j ≡ Some e → e.level ≤ n) → ((j : ℕ) (e : TrailEntry) → p ≤ j → slice_get es j ≡ Some e → n < e.level) → filter (below n) es ≡ take p es
filter_take n es zero low high = past es n (λ j e q. high j e (omega arith) q)
filter_take n [] (suc p) low high = refl
filter_take n (e ∷ es) (suc p) low high =
    let b : below n e ≡ true = grind (arith, low zero e (omega arith) refl) in
    rw b (ap (λ r. e ∷ r) (filter_take n es p (λ j d h q. low (suc j) d (omega (arith, h)) q) (λ j d h q. high (suc j) d (omega (arith, h)) q)))

pub up_to-opening : (t : Trail) (n : ℕ) (o : Opens t.entries n) → AreLevels t.entries → (up_to n t).entries ≡ take o.place t.entries
up_to-opening t n o g =
    let lvl : o.entry.level ≡ decisions (take o.place t.entries) + 1 = opening-level t.entries o.place o.entry g o.there o.chosen in
    filter_take n t.entries o.place
    (λ j e h q. (let b = before-level t.entries o.place j e g h q in omega (arith, b, o.below)))
    (λ j e h q. (let r = (levels-rise t.entries g).at o.place j o.entry e h o.there q in omega (arith, r, lvl, o.below)))
