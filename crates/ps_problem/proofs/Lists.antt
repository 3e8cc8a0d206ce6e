-- Places of things in lists, and lists in which nothing stands twice.
use Rattle.std.proofs.Common.{◌≡◌, ℕ, zero, suc, ◌<◌, ◌≤◌, Bool, true, false, ◌&&◌, ◌||◌, nat_lt, List, [], ◌∷◌, ◌++◌, length, get_or, refl, sym, ap, ◌∙◌, true≢false, if◌then◌else◌, arith}
use Rattle.std.specs.List.{list_any}
use Rattle.std.proofs.lemmas.List.{get_or_append_left, get_or_push, length_push}
use Rattle.std.proofs.lemmas.Bool.Decides.{nat_tests}
use Rattle.ps_problem.specs.Numbering.{place_in}
use Rattle.ps_problem.specs.Numbering.{AreOnce}

pub or-left : (a b : Bool) → a ≡ true → (a || b) ≡ true
or-left a b e = rw e refl

pub or-right : (a b : Bool) → b ≡ true → (a || b) ≡ true
or-right true b e = refl
or-right false b e = e

pub or-false : (a b : Bool) → (a || b) ≡ false → (a ≡ false) × (b ≡ false)
or-false true b e = absurd (true≢false e)
or-false false b e = (refl, e)

pub and-true : (a b : Bool) → (a && b) ≡ true → (a ≡ true) × (b ≡ true)
and-true true b e = (refl, e)
and-true false b e = absurd (true≢false (sym e))

module _ {X : Type 0} (same : X → X → Bool) where
  pub any-append : (xs ys : List X) (x : X) → list_any (same x) xs ≡ true → list_any (same x) (xs ++ ys) ≡ true
  any-append [] ys x e = absurd (true≢false (sym e))
  any-append (y ∷ xs) ys x e = by (same x y) e (any-append xs ys x)
    where
      by : (b : Bool) → (b || list_any (same x) xs) ≡ true → (list_any (same x) xs ≡ true → list_any (same x) (xs ++ ys) ≡ true) → (b || list_any (same x) (xs ++ ys)) ≡ true
      by true e k = refl
      by false e k = k e

  pub place-append : (xs ys : List X) (x : X) → list_any (same x) xs ≡ true → place_in same (xs ++ ys) x ≡ place_in same xs x
  place-append [] ys x e = absurd (true≢false (sym e))
  place-append (y ∷ xs) ys x e = by (same x y) e (place-append xs ys x)
    where
      by : (b : Bool) → (b || list_any (same x) xs) ≡ true → (list_any (same x) xs ≡ true → place_in same (xs ++ ys) x ≡ place_in same xs x)
          → (if b then 0 else suc (place_in same (xs ++ ys) x)) ≡ (if b then 0 else suc (place_in same xs x))
      by true e k = refl
      by false e k = ap suc (k e)

  pub place-below : (xs : List X) (x : X) → list_any (same x) xs ≡ true → place_in same xs x < length xs
  place-below [] x e = absurd (true≢false (sym e))
  place-below (y ∷ xs) x e = by (same x y) e (place-below xs x)
    where
      by : (b : Bool) → (b || list_any (same x) xs) ≡ true → (list_any (same x) xs ≡ true → place_in same xs x < length xs) → (if b then 0 else suc (place_in same xs x)) < suc (length xs)
      by true e k = omega arith
      by false e k = let lt : place_in same xs x < length xs = k e in omega arith

  pub place-absent : (xs : List X) (x : X) → list_any (same x) xs ≡ false → place_in same xs x ≡ length xs
  place-absent [] x e = refl
  place-absent (y ∷ xs) x e =
      let o = or-false (same x y) (list_any (same x) xs) e in
      rw o.0 (ap suc (place-absent xs x o.1))

  module _ (sound : (x y : X) → same x y ≡ true → x ≡ y) (own : (x : X) → same x x ≡ true) where
    pub any-self : (xs : List X) (i : ℕ) (d : X) → i < length xs → list_any (same (get_or xs i d)) xs ≡ true
    any-self [] i d lt = absurd (omega arith)
    any-self (x ∷ xs) zero d lt = or-left (same x x) (list_any (same x) xs) (own x)
    any-self (x ∷ xs) (suc i) d lt = or-right (same (get_or xs i d) x) (list_any (same (get_or xs i d)) xs) (any-self xs i d (omega arith))

    pub place-get : (xs : List X) (x d : X) → list_any (same x) xs ≡ true → get_or xs (place_in same xs x) d ≡ x
    place-get [] x d e = absurd (true≢false (sym e))
    place-get (y ∷ xs) x d e = by (same x y) refl e (place-get xs x d)
      where
        by : (b : Bool) → same x y ≡ b → (b || list_any (same x) xs) ≡ true → (list_any (same x) xs ≡ true → get_or xs (place_in same xs x) d ≡ x)
            → get_or (y ∷ xs) (if b then 0 else suc (place_in same xs x)) d ≡ x
        by true s e k = sym (sound x y s)
        by false s e k = k e

    pub place-same : (xs : List X) (x y : X) → list_any (same x) xs ≡ true → list_any (same y) xs ≡ true → place_in same xs x ≡ place_in same xs y → x ≡ y
    place-same xs x y a b e = sym (place-get xs x x a) ∙ ap (λ i. get_or xs i x) e ∙ place-get xs y x b

    pub place-new : (xs : List X) (x : X) → list_any (same x) xs ≡ false → place_in same (xs ++ x ∷ []) x ≡ length xs
    place-new [] x e = rw (own x) refl
    place-new (y ∷ xs) x e =
        let o = or-false (same x y) (list_any (same x) xs) e in
        rw o.0 (ap suc (place-new xs x o.1))

    pub any-new : (xs : List X) (x : X) → list_any (same x) (xs ++ x ∷ []) ≡ true
    any-new [] x = or-left (same x x) false (own x)
    any-new (y ∷ xs) x = or-right (same x y) (list_any (same x) (xs ++ x ∷ [])) (any-new xs x)

    pub once-push : (xs : List X) (x : X) → list_any (same x) xs ≡ false → AreOnce same xs → AreOnce same (xs ++ x ∷ [])
    once-push xs x new once i d lt = by (nat_lt i (length xs)) refl
      where
        by : (b : Bool) → nat_lt i (length xs) ≡ b → place_in same (xs ++ x ∷ []) (get_or (xs ++ x ∷ []) i d) ≡ i
        by true e =
            let l : i < length xs = grind (arith, nat_tests) in
            rw (get_or_append_left xs (x ∷ []) d i l) (place-append xs (x ∷ []) (get_or xs i d) (any-self xs i d l) ∙ once i d l)
        by false e =
            let l : length xs ≤ i = grind (arith, nat_tests) in
            let n = length_push xs x in
            let j : length xs ≡ i = omega arith in
            rw (get_or_push xs x d i j) (place-new xs x new ∙ j)
