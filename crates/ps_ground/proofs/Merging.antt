-- Entries of one world, merged.
use Rattle.std.proofs.Common.{◌≡◌, ◌≢◌, ℕ, zero, suc, pos, ◌+ℤ◌, ◌≤ℤ◌, ◌<◌, Bool, true, false, not, cond, List, [], ◌∷◌, length, All, refl, sym, ap, ◌∙◌, true≢false, arith}
use Rattle.std.specs.List.{AllPairs}
use Rattle.std.proofs.lemmas.Int.{ints}
use Rattle.std.proofs.lemmas.Bool.{and_parts}
use Rattle.std.proofs.lemmas.List.Elements.{All-nil, All-cons, All-head, All-tail, All-weaker, All-filter, filter_passes}
use Rattle.std.proofs.lemmas.List.Kept.{AllPairs-cons, AllPairs-filter}
use Rattle.ps_meaning.specs.Formula.{World, Formula, is_true, agree}
use Rattle.ps_meaning.specs.Distribution.{Entry, weight}
use Rattle.ps_ground.specs.Images.{same_world, weight_at, others, merged}

agree-true : (a b : Bool) → agree a b ≡ true → a ≡ b
agree-true true true e = refl
agree-true true false e = absurd (true≢false (sym e))
agree-true false true e = absurd (true≢false (sym e))
agree-true false false e = refl

agree-refl : (a : Bool) → agree a a ≡ true
agree-refl true = refl
agree-refl false = refl

pub same_world-true : (v w : World) → same_world v w ≡ true → v ≡ w
same_world-true [] [] e = refl
same_world-true [] (b ∷ w) e = absurd (true≢false (sym e))
same_world-true (a ∷ v) [] e = absurd (true≢false (sym e))
same_world-true (a ∷ v) (b ∷ w) e =
    let p = and_parts (agree a b) (same_world v w) e in
    let h = agree-true a b p.0 in
    let t = same_world-true v w p.1 in
    ap (λ x. x ∷ v) h ∙ ap (λ xs. b ∷ xs) t

pub same_world-refl : (w : World) → same_world w w ≡ true
same_world-refl [] = refl
same_world-refl (a ∷ w) = rw (agree-refl a, same_world-refl w) refl

-- the weight of a formula goes to a world and to the others
split : (w : World) (d : List Entry) (f : Formula ℕ) → (cond (is_true f w) (weight_at w d) (pos 0) +ℤ weight (others w d) f) ≡ weight d f
split w [] f = by (is_true f w)
  where
    by : (b : Bool) → (cond b (pos 0) (pos 0) +ℤ pos 0) ≡ pos 0
    by true = refl
    by false = refl
split w (e ∷ d) f = by (same_world w e.world) refl (split w d f)
  where
    here : (b c : Bool) → cond b (weight_at w d) (pos 0) +ℤ weight (others w d) f ≡ weight d f
        → (cond b (e.weight +ℤ weight_at w d) (pos 0) +ℤ weight (others w d) f) ≡ (cond b e.weight (pos 0) +ℤ weight d f)
    here true c k = omega (arith, ints, k)
    here false c k = omega (arith, ints, k)

    there : (b c : Bool) → cond b (weight_at w d) (pos 0) +ℤ weight (others w d) f ≡ weight d f
        → (cond b (pos 0 +ℤ weight_at w d) (pos 0) +ℤ (cond c e.weight (pos 0) +ℤ weight (others w d) f)) ≡ (cond c e.weight (pos 0) +ℤ weight d f)
    there true c k = omega (arith, ints, k)
    there false c k = omega (arith, ints, k)

    by : (t : Bool) → same_world w e.world ≡ t → cond (is_true f w) (weight_at w d) (pos 0) +ℤ weight (others w d) f ≡ weight d f
        → (cond (is_true f w) (cond t e.weight (pos 0) +ℤ weight_at w d) (pos 0) +ℤ weight (cond (not t) (e ∷ others w d) (others w d)) f) ≡ (cond (is_true f e.world) e.weight (pos 0) +ℤ weight d f)
    by true same k = rw (← same_world-true w e.world same) (here (is_true f w) true k)
    by false same k = there (is_true f w) (is_true f e.world) k

pub merged-weight : (d : List Entry) (f : Formula ℕ) → weight (merged d) f ≡ weight d f
merged-weight [] f = refl
merged-weight (e ∷ d) f = by (is_true f e.world) (split e.world (merged d) f) (merged-weight d f)
  where
    by : (b : Bool) → (cond b (weight_at e.world (merged d)) (pos 0) +ℤ weight (others e.world (merged d)) f) ≡ weight (merged d) f → weight (merged d) f ≡ weight d f
        → (cond b (e.weight +ℤ weight_at e.world (merged d)) (pos 0) +ℤ weight (others e.world (merged d)) f) ≡ (cond b e.weight (pos 0) +ℤ weight d f)
    by true s k = omega (arith, ints, s, k)
    by false s k = omega (arith, ints, s, k)

-- the worlds are those that there were
pub merged-worlds : (P : World → Type 0) (d : List Entry) → All (λ e. P e.world) d → All (λ e. P e.world) (merged d)
merged-worlds P [] h = All-nil (λ e. P e.world)
merged-worlds P (e ∷ d) h =
    All-cons (λ x. P x.world) (record { weight = e.weight +ℤ weight_at e.world (merged d); world = e.world }) (others e.world (merged d)) (All-head (λ x. P x.world) e d h)
    (All-filter (λ x. not (same_world e.world x.world)) (λ x. P x.world) (merged d) (merged-worlds P d (All-tail (λ x. P x.world) e d h)))

at-least-none : (w : World) (d : List Entry) → All (λ e. pos 1 ≤ℤ e.weight) d → pos 0 ≤ℤ weight_at w d
at-least-none w [] h = omega (arith, ints)
at-least-none w (e ∷ d) h = by (same_world w e.world) (All-head (λ x. pos 1 ≤ℤ x.weight) e d h) (at-least-none w d (All-tail (λ x. pos 1 ≤ℤ x.weight) e d h))
  where
    by : (b : Bool) → pos 1 ≤ℤ e.weight → pos 0 ≤ℤ weight_at w d → pos 0 ≤ℤ (cond b e.weight (pos 0) +ℤ weight_at w d)
    by true h k = omega (arith, ints)
    by false h k = omega (arith, ints)

pub merged-weighed : (d : List Entry) → All (λ e. pos 1 ≤ℤ e.weight) d → All (λ e. pos 1 ≤ℤ e.weight) (merged d)
merged-weighed [] h = All-nil (λ e. pos 1 ≤ℤ e.weight)
merged-weighed (e ∷ d) h =
    let rest = merged-weighed d (All-tail (λ x. pos 1 ≤ℤ x.weight) e d h) in
    let one : pos 1 ≤ℤ e.weight = All-head (λ x. pos 1 ≤ℤ x.weight) e d h in
    let more : pos 0 ≤ℤ weight_at e.world (merged d) = at-least-none e.world (merged d) rest in
    All-cons (λ x. pos 1 ≤ℤ x.weight) (record { weight = e.weight +ℤ weight_at e.world (merged d); world = e.world }) (others e.world (merged d)) (omega (arith, ints))
    (All-filter (λ x. not (same_world e.world x.world)) (λ x. pos 1 ≤ℤ x.weight) (merged d) rest)

-- no world comes twice
pub merged-different : (d : List Entry) → AllPairs (λ e e'. e.world ≢ e'.world) (merged d)
merged-different [] = λ i j x lt least. absurd (omega arith)
merged-different (e ∷ d) =
    AllPairs-cons (λ x y. x.world ≢ y.world) (record { weight = e.weight +ℤ weight_at e.world (merged d); world = e.world }) (others e.world (merged d))
    (All-weaker (λ x. not (same_world e.world x.world) ≡ true) (λ x. e.world ≢ x.world) apart (others e.world (merged d)) (filter_passes (λ x. not (same_world e.world x.world)) (merged d)))
    (AllPairs-filter (λ x y. x.world ≢ y.world) (λ x. not (same_world e.world x.world)) (merged d) (merged-different d))
  where
    apart : (x : Entry) → not (same_world e.world x.world) ≡ true → e.world ≢ x.world
    apart x n same = true≢false (sym n ∙ ap not (ap (same_world e.world) (sym same) ∙ same_world-refl e.world))

pub merged-some : (d : List Entry) → 0 < length d → 0 < length (merged d)
merged-some [] h = h
merged-some (e ∷ d) h = omega arith

-- pairs of a list
pub pairs-head : {X : Type 0} (R : X → X → Type 0) (x : X) (xs : List X) → AllPairs R (x ∷ xs) → All (R x) xs
pairs-head R x xs h = λ k d lt. h zero (suc k) d (omega arith) (omega arith)

pub pairs-tail : {X : Type 0} (R : X → X → Type 0) (x : X) (xs : List X) → AllPairs R (x ∷ xs) → AllPairs R xs
pairs-tail R x xs h = λ i j d lt most. h (suc i) (suc j) d (omega arith) (omega arith)

no-others : (w : World) (d : List Entry) → All (λ e. w ≢ e.world) d → (weight_at w d ≡ pos 0) × (others w d ≡ d)
no-others w [] h = (refl, refl)
no-others w (e ∷ d) h = by (same_world w e.world) refl (no-others w d (All-tail (λ x. w ≢ x.world) e d h))
  where
    by : (b : Bool) → same_world w e.world ≡ b → (weight_at w d ≡ pos 0) × (others w d ≡ d)
        → ((cond b e.weight (pos 0) +ℤ weight_at w d) ≡ pos 0) × (cond (not b) (e ∷ others w d) (others w d) ≡ e ∷ d)
    by true same k = absurd (All-head (λ x. w ≢ x.world) e d h (same_world-true w e.world same))
    by false same k = (omega (arith, ints, k.0), ap (λ xs. e ∷ xs) k.1)

-- where no world comes twice nothing is merged
pub merged-same : (d : List Entry) → AllPairs (λ e e'. e.world ≢ e'.world) d → merged d ≡ d
merged-same [] h = refl
merged-same (e ∷ d) h =
    let rest = merged-same d (pairs-tail (λ x y. x.world ≢ y.world) e d h) in
    let none = no-others e.world d (pairs-head (λ x y. x.world ≢ y.world) e d h) in
    let same : (e.weight +ℤ weight_at e.world d) ≡ e.weight = omega (arith, ints, none.0) in
    rw (rest, none.1, same) refl
