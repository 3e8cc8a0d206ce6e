-- A trail with one literal less.
use Rattle.std.proofs.Common.{◌≡◌, ℕ, zero, suc, ◌-◌, ◌<◌, ◌≤◌, Bool, true, false, Some, None, List, [], ◌∷◌, ◌++◌, length, take, length-set, get_or, arith, refl, sym, ap, ◌∙◌, subst}
use Rattle.std.specs.Prelude.{slice_get, is_none, nat_le, unsigned_abs}
use Rattle.std.specs.List.{filter}
use Rattle.std.proofs.Math.Seq.{take-suc}
use Rattle.ps_pb.specs.Assignments.{Assignment, without}
use Rattle.ps_learn.specs.Trails.{TrailEntry, Trail, values_of, decisions, up_to, AreFresh, AreLevels}
use Rattle.ps_learn.proofs.Entries.{values-cut, fresh-front}
use Rattle.ps_learn.proofs.TrailDistinct.{decisions-take}
use Rattle.ps_learn.proofs.Levels.{up_to-take}
use Rattle.ps_learn.specs.Fields.{trail_of, IsTrail}
use Rattle.ps_learn.proofs.Pushing.{decisions-append, one_if}

length-without : (a : Assignment) (n : ℕ) → length (without a n) ≡ length a
unfolding without
length-without a zero = refl
length-without a (suc p) = length-set a p None

-- the last entry and those before it
pub split-last : (slots : List TrailEntry) (used : ℕ) (d : TrailEntry) → used < length slots → take (suc used) slots ≡ take used slots ++ get_or slots used d ∷ []
split-last slots used d h = take-suc slots used d h

taken : (es : List TrailEntry) (n i : ℕ) (d : TrailEntry) → slice_get (take n es) i ≡ Some d → slice_get es i ≡ Some d
taken [] zero i d h = absurd (cc)
taken [] (suc n) i d h = absurd (cc)
taken (x ∷ es) zero i d h = absurd (cc)
taken (x ∷ es) (suc n) zero d h = h
taken (x ∷ es) (suc n) (suc i) d h = taken es n i d h

front-same : (es : List TrailEntry) (e d : TrailEntry) (i : ℕ) → slice_get es i ≡ Some d → (slice_get (es ++ e ∷ []) i ≡ Some d) × (take (suc i) (es ++ e ∷ []) ≡ take (suc i) es)
front-same [] e d i h = absurd (cc)
front-same (x ∷ es) e d zero h = (h, refl)
front-same (x ∷ es) e d (suc i) h = let r = front-same es e d i h in (r.0, ap (λ t. x ∷ t) r.1)

pub levels-front : (es : List TrailEntry) (e : TrailEntry) → AreLevels (es ++ e ∷ []) → AreLevels es
levels-front es e f = record { at = λ i d k. let r = front-same es e d i k in f.at i d r.0 ∙ ap decisions r.1 }

get-end : (es : List TrailEntry) (e : TrailEntry) → (slice_get (es ++ e ∷ []) (length es) ≡ Some e) × (take (suc (length es)) (es ++ e ∷ []) ≡ es ++ e ∷ [])
get-end [] e = (refl, refl)
get-end (x ∷ es) e = let r = get-end es e in (r.0, ap (λ t. x ∷ t) r.1)

pub level-last : (es : List TrailEntry) (e : TrailEntry) → AreLevels (es ++ e ∷ []) → e.level ≡ decisions (es ++ e ∷ [])
level-last es e f = let r = get-end es e in f.at (length es) e r.0 ∙ ap decisions r.1

-- one literal less
pub cut-one : (a : Assignment) (slots : List TrailEntry) (used level : ℕ) (d : TrailEntry) → IsTrail a slots (suc used) level → IsTrail (without a (unsigned_abs (get_or slots used d).lit)) slots used (level - one_if (is_none (get_or slots used d).reason))
cut-one a slots used level d t =
    let e = get_or slots used d in
    let es = take used slots in
    let q : take (suc used) slots ≡ es ++ e ∷ [] = split-last slots used d (omega (arith, t.within)) in
    let f : AreFresh (length a) (es ++ e ∷ []) = rw (← q) t.fresh in
    let l : length (without a (unsigned_abs e.lit)) ≡ length a = length-without a (unsigned_abs e.lit) in
    record {
      values = rw l (ap (λ b. without b (unsigned_abs e.lit)) (t.values ∙ ap (values_of (length a)) q) ∙ values-cut (length a) es e f);
      fresh = rw l (fresh-front (length a) es e f);
      levels = levels-front es e (rw (← q) t.levels);
      level_is = omega (arith, t.level_is, ap decisions q, decisions-append es e);
      room = t.room ∙ sym l;
      within = omega (arith, t.within);
      narrow = rw l t.narrow;
    }

filter-all : (n : ℕ) (es : List TrailEntry) → ((i : ℕ) (e : TrailEntry) → slice_get es i ≡ Some e → e.level ≤ n) → filter (λ e. nat_le e.level n) es ≡ es
filter-all n [] h = refl
filter-all n (e ∷ es) h = let b : nat_le e.level n ≡ true = grind (arith, h zero e refl) in rw (b, filter-all n es (λ i d k. h (suc i) d k)) refl

-- nothing stands above the level of all
pub up_to-all : (t : Trail) (n : ℕ) → AreLevels t.entries → decisions t.entries ≤ n → up_to n t ≡ t
up_to-all t n f h = ap (λ es. record { variables = t.variables; entries = es }) (filter-all n t.entries (λ i e k. omega (arith, f.at i e k, decisions-take t.entries (suc i), h)))

filter-last : (n : ℕ) (es : List TrailEntry) (e : TrailEntry) → nat_le e.level n ≡ false → filter (λ d. nat_le d.level n) (es ++ e ∷ []) ≡ filter (λ d. nat_le d.level n) es
filter-last n [] e h = rw h refl
filter-last n (x ∷ es) e h = by_case (nat_le x.level n) refl (filter-last n es e h)
  where
    by_case : (b : Bool) → nat_le x.level n ≡ b → filter (λ d. nat_le d.level n) (es ++ e ∷ []) ≡ filter (λ d. nat_le d.level n) es → filter (λ d. nat_le d.level n) (x ∷ (es ++ e ∷ [])) ≡ filter (λ d. nat_le d.level n) (x ∷ es)
    by_case true q r = rw (q, r) refl
    by_case false q r = rw (q, r) refl

-- what stands up to a level is the first part
pub up_to_part : (t : Trail) (n : ℕ) → AreLevels t.entries → (k : ℕ) × ((up_to n t).entries ≡ take k t.entries)
up_to_part t n f = up_to-take n t.entries f

-- the last literal stands above the level
pub up_to-cut : (v n : ℕ) (es : List TrailEntry) (e : TrailEntry) → n < e.level → up_to n (record { variables = v; entries = es ++ e ∷ [] }) ≡ up_to n (record { variables = v; entries = es })
up_to-cut v n es e h = let b : nat_le e.level n ≡ false = grind (arith, h) in ap (λ xs. record { variables = v; entries = xs }) (filter-last n es e b)

-- nothing is taken back
pub none-above : (a : Assignment) (slots : List TrailEntry) (used level n : ℕ) (d : TrailEntry) (t : Trail) → IsTrail a slots used level → trail_of a slots used ≡ t → 0 < used → d ≡ get_or slots (used - 1) d → d.level ≤ n → t ≡ up_to n t
none-above a slots zero level n d t inv q h at le = absurd (omega (arith, h))
none-above a slots (suc u) level n d t inv q h at le =
    let z : suc u - 1 ≡ u = omega arith in
    let e : take (suc u) slots ≡ take u slots ++ d ∷ [] = split-last slots u d (omega (arith, inv.within)) ∙ ap (λ x. take u slots ++ x ∷ []) (sym (rw z at at)) in
    let last : d.level ≡ decisions (take u slots ++ d ∷ []) = level-last (take u slots) d (rw (← e) inv.levels) in
    let all : decisions (take (suc u) slots) ≤ n = omega (arith, ap decisions e, last, le) in
    sym (subst (λ (x : Trail). up_to n x ≡ x) q (up_to-all (trail_of a slots (suc u)) n inv.levels all))

-- the last one is taken back
pub taken-inside : (a a' : Assignment) (slots : List TrailEntry) (used level : ℕ) (d : TrailEntry) (k : ℕ) → IsTrail a slots used level → 0 < used → d ≡ get_or slots (used - 1) d → a' ≡ without a (unsigned_abs d.lit) → k ≡ one_if (is_none d.reason) → IsTrail a' slots (used - 1) (level - k)
taken-inside a a' slots zero level d k inv h at p q = absurd (omega (arith, h))
taken-inside a a' slots (suc u) level d k inv h at p q =
    let z : suc u - 1 ≡ u = omega arith in
    let at' : d ≡ get_or slots u d = rw z at at in
    rw (z, p, q) (subst (λ (x : TrailEntry). IsTrail (without a (unsigned_abs x.lit)) slots u (level - one_if (is_none x.reason))) (sym at') (cut-one a slots u level d inv))

pub taken-level : (a : Assignment) (slots : List TrailEntry) (used level : ℕ) (d : TrailEntry) (k : ℕ) → IsTrail a slots used level → 0 < used → d ≡ get_or slots (used - 1) d → k ≡ one_if (is_none d.reason) → k ≤ level
taken-level a slots zero level d k inv h at q = absurd (omega (arith, h))
taken-level a slots (suc u) level d k inv h at q =
    let z : suc u - 1 ≡ u = omega arith in
    let e : take (suc u) slots ≡ take u slots ++ d ∷ [] = split-last slots u d (omega (arith, inv.within)) ∙ ap (λ x. take u slots ++ x ∷ []) (sym (rw z at at)) in
    omega (arith, inv.level_is, ap decisions e, decisions-append (take u slots) d, q)

pub taken-same : (a a' : Assignment) (slots : List TrailEntry) (used level n : ℕ) (d : TrailEntry) (t : Trail) → IsTrail a slots used level → trail_of a slots used ≡ t → 0 < used → d ≡ get_or slots (used - 1) d → n < d.level → a' ≡ without a (unsigned_abs d.lit) → up_to n (trail_of a' slots (used - 1)) ≡ up_to n t
taken-same a a' slots zero level n d t inv q h at le p = absurd (omega (arith, h))
taken-same a a' slots (suc u) level n d t inv q h at le p =
    let z : suc u - 1 ≡ u = omega arith in
    let e : take (suc u) slots ≡ take u slots ++ d ∷ [] = split-last slots u d (omega (arith, inv.within)) ∙ ap (λ x. take u slots ++ x ∷ []) (sym (rw z at at)) in
    let l : length a' ≡ length a = ap length p ∙ length-without a (unsigned_abs d.lit) in
    rw z (ap (λ v. up_to n (record { variables = v; entries = take u slots })) l
    ∙ sym (up_to-cut (length a) n (take u slots) d le)
    ∙ ap (λ es. up_to n (record { variables = length a; entries = es })) (sym e)
    ∙ ap (up_to n) q)

pub taken-vars : (a a' : Assignment) (slots : List TrailEntry) (used n : ℕ) (t : Trail) → trail_of a slots used ≡ t → a' ≡ without a n → length a' ≡ t.variables
taken-vars a a' slots used n t q p = ap length p ∙ length-without a n ∙ ap (λ (x : Trail). x.variables) q
