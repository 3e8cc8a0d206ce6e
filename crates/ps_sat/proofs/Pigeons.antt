-- Different numbers below a bound are at most so many.
use Rattle.std.proofs.Common.{ℕ, zero, suc, ◌<◌, ◌≤◌, List, [], ◌∷◌, length, arith, subst, inl, inr}
use Rattle.std.proofs.lemmas.Bool.{cases_eq}
use Rattle.ps_sat.specs.Links.{Holds, IsOnce}

abbrev pub AreBelow : ℕ → List ℕ → Type 0
AreBelow n [] = Unit {0}
AreBelow n (x ∷ xs) = (x < n) × AreBelow n xs

-- a list without one of its numbers
record IsLess (n : ℕ) (xs : List ℕ) : Type 0 where
  rest : List ℕ
  below : AreBelow n rest
  once : IsOnce rest
  from : (k : ℕ) → Holds k rest → Holds k xs
  size : length xs ≤ suc (length rest)

all_below : (n : ℕ) (xs : List ℕ) → AreBelow (suc n) xs → (¬ Holds n xs) → AreBelow n xs
all_below n [] h out = tt
all_below n (x ∷ xs) h out = ((elim (cases_eq n x) [ inl e ↦ absurd (out (inl e)) | inr ne ↦ omega (arith, ne, h.0) ]), all_below n xs h.1 (λ k. out (inr k)))

less : (n : ℕ) (xs : List ℕ) → AreBelow (suc n) xs → IsOnce xs → IsLess n xs
less n [] h o = record { rest = []; below = tt; once = tt; from = λ k z. z; size = omega arith }
less n (x ∷ xs) h o = elim (cases_eq n x) [
  | inl e ↦ record { rest = xs; below = all_below n xs h.1 (λ k. o.0 (subst (λ z. Holds z xs) e k)); once = o.1; from = λ k z. inr z; size = omega arith }
  | inr ne ↦ (let r = less n xs h.1 o.1 in
      record {
        rest = x ∷ r.rest;
        below = (omega (arith, ne, h.0), r.below);
        once = ((λ k. o.0 (r.from x k)), r.once);
        from = λ k z. elim z [ inl e ↦ inl e | inr y ↦ inr (r.from k y) ];
        size = omega (arith, r.size);
      })
]

pub few : (n : ℕ) (xs : List ℕ) → AreBelow n xs → IsOnce xs → length xs ≤ n
few zero [] h o = omega arith
few zero (x ∷ xs) h o = absurd (omega (arith, h.0))
few (suc n) xs h o =
    let r = less n xs h o in
    let f = few n r.rest r.below r.once in
    omega (arith, f, r.size)
