-- Bytes that are cut at a separator.
use Rattle.std.proofs.Common.{◌≡◌, ℕ, ◌<◌, ◌==◌, Bool, true, false, List, [], ◌∷◌, ◌++◌, length, take, refl, sym, ap, ◌∙◌, append_assoc, append-nil, arith, zero, suc, ◌≤◌, length-append}
use Rattle.std.proofs.lemmas.List.{take-append-le}
use Rattle.ps_log.specs.Told.{parts_after, rest_after}

-- no byte is the separator
abbrev pub Lacks : ℕ → List ℕ → Type 0
Lacks sep [] = Unit {0}
Lacks sep (b ∷ bs) = ((b == sep) ≡ false) × Lacks sep bs

pub parts-append : (sep : ℕ) (part xs ys : List ℕ) → parts_after sep part (xs ++ ys) ≡ parts_after sep part xs ++ parts_after sep (rest_after sep part xs) ys
parts-append sep part [] ys = refl
parts-append sep part (x ∷ xs) ys = by (x == sep) refl (parts-append sep [] xs ys) (parts-append sep (part ++ x ∷ []) xs ys)
  where
    by : (t : Bool) → (x == sep) ≡ t
        → parts_after sep [] (xs ++ ys) ≡ parts_after sep [] xs ++ parts_after sep (rest_after sep [] xs) ys
        → parts_after sep (part ++ x ∷ []) (xs ++ ys) ≡ parts_after sep (part ++ x ∷ []) xs ++ parts_after sep (rest_after sep (part ++ x ∷ []) xs) ys
        → parts_after sep part ((x ∷ xs) ++ ys) ≡ parts_after sep part (x ∷ xs) ++ parts_after sep (rest_after sep part (x ∷ xs)) ys
    by true e p q = rw e (ap (λ r. part ∷ r) p)
    by false e p q = rw e q

pub rest-append : (sep : ℕ) (part xs ys : List ℕ) → rest_after sep part (xs ++ ys) ≡ rest_after sep (rest_after sep part xs) ys
rest-append sep part [] ys = refl
rest-append sep part (x ∷ xs) ys = by (x == sep) refl (rest-append sep [] xs ys) (rest-append sep (part ++ x ∷ []) xs ys)
  where
    by : (t : Bool) → (x == sep) ≡ t
        → rest_after sep [] (xs ++ ys) ≡ rest_after sep (rest_after sep [] xs) ys
        → rest_after sep (part ++ x ∷ []) (xs ++ ys) ≡ rest_after sep (rest_after sep (part ++ x ∷ []) xs) ys
        → rest_after sep part ((x ∷ xs) ++ ys) ≡ rest_after sep (rest_after sep part (x ∷ xs)) ys
    by true e p q = rw e p
    by false e p q = rw e q

-- bytes without a separator are no whole part
pub parts-none : (sep : ℕ) (part xs : List ℕ) → Lacks sep xs → parts_after sep part xs ≡ []
parts-none sep part [] h = refl
parts-none sep part (x ∷ xs) h = rw h.0 (parts-none sep (part ++ x ∷ []) xs h.1)

pub rest-none : (sep : ℕ) (part xs : List ℕ) → Lacks sep xs → rest_after sep part xs ≡ part ++ xs
rest-none sep part [] h = sym (append-nil part)
rest-none sep part (x ∷ xs) h = rw h.0 (rest-none sep (part ++ x ∷ []) xs h.1 ∙ append_assoc part (x ∷ []) xs)

pub same_byte : (sep : ℕ) → (sep == sep) ≡ true
same_byte sep = grind arith

-- a part that is closed
pub parts-one : (sep : ℕ) (part xs : List ℕ) → Lacks sep xs → parts_after sep part (xs ++ sep ∷ []) ≡ (part ++ xs) ∷ []
parts-one sep part xs h =
    parts-append sep part xs (sep ∷ []) ∙ rw (parts-none sep part xs h, rest-none sep part xs h, same_byte sep) refl

pub rest-closed : (sep : ℕ) (part xs : List ℕ) → rest_after sep part (xs ++ sep ∷ []) ≡ []
rest-closed sep part xs = rest-append sep part xs (sep ∷ []) ∙ rw (same_byte sep) refl

pub Lacks-append : (sep : ℕ) (xs ys : List ℕ) → Lacks sep xs → Lacks sep ys → Lacks sep (xs ++ ys)
Lacks-append sep [] ys p q = q
Lacks-append sep (x ∷ xs) ys p q = (p.0, Lacks-append sep xs ys p.1 q)

pub Lacks-take : (sep k : ℕ) (xs : List ℕ) → Lacks sep xs → Lacks sep (take k xs)
Lacks-take sep zero xs h = tt
Lacks-take sep (suc k) [] h = tt
Lacks-take sep (suc k) (x ∷ xs) h = (h.0, Lacks-take sep k xs h.1)

-- a proper prefix of a closed part has no separator
pub Lacks-prefix : (sep k : ℕ) (xs : List ℕ) → Lacks sep xs → k < length (xs ++ sep ∷ []) → Lacks sep (take k (xs ++ sep ∷ []))
Lacks-prefix sep k xs h lt =
    let within : k ≤ length xs = omega (arith, lt, length-append xs (sep ∷ [])) in
    rw (take-append-le k xs (sep ∷ []) within) (Lacks-take sep k xs h)
