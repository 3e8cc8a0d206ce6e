-- Different worlds of so many atoms are few.
use Rattle.std.specs.Prelude.{All, AllPairs, slice_index_or}
use Rattle.std.proofs.Common.{◌≡◌, ◌≢◌, ℕ, ◌+◌, ◌^◌, ◌<◌, ◌≤◌, List, [], ◌∷◌, length, Bool, true, false, cond, refl, sym, ◌∙◌, subst, arith}
use Rattle.std.proofs.Math.Nat.{pow-zero, two-pow-succ}
use Rattle.std.proofs.lemmas.List.Elements.{All-get_or}
use Rattle.ps_simplex.proofs.Pigeons.{pigeons}

-- the number of a world, whose first atom counts 1
number : List Bool → ℕ
number [] = 0
number (b ∷ bs) = cond b 1 0 + (number bs + number bs)

digit : (b : Bool) → cond b 1 0 < 2
digit true = omega arith
digit false = omega arith

number_less : (bs : List Bool) → number bs < 2 ^ length bs
unfolding number
number_less [] = let e = pow-zero 2 in omega (arith, e)
number_less (b ∷ bs) =
    let h = number_less bs in
    let e = two-pow-succ (length bs) in
    let l = digit b in
    omega (arith, h, e, l)

same_digit : (b d : Bool) (x y : ℕ) → cond b 1 0 + (x + x) ≡ cond d 1 0 + (y + y) → (b ≡ d) × (x ≡ y)
same_digit true true x y e = (refl, omega (arith, e))
same_digit false false x y e = (refl, omega (arith, e))
same_digit true false x y e = absurd (omega (arith, e))
same_digit false true x y e = absurd (omega (arith, e))

number_tells : (xs ys : List Bool) → length xs ≡ length ys → number xs ≡ number ys → xs ≡ ys
unfolding number
number_tells [] [] l e = refl
number_tells [] (d ∷ ys) l e = absurd (omega (arith, l))
number_tells (b ∷ xs) [] l e = absurd (omega (arith, l))
number_tells (b ∷ xs) (d ∷ ys) l e =
    let parts = same_digit b d (number xs) (number ys) e in
    let rest = number_tells xs ys (omega (arith, l)) parts.1 in
    λ i. parts.0 i ∷ rest i

pub few_worlds : (a : ℕ) (pool : List (List Bool)) → AllPairs (λ u v. u ≢ v) pool → All (λ w. length w ≡ a) pool → length pool ≤ 2 ^ a
few_worlds a pool different sized =
    let size : (i : ℕ) → i < length pool → length (slice_index_or pool i []) ≡ a = λ i l. All-get_or (λ w. length w ≡ a) pool i [] l sized in
    pigeons (length pool) (2 ^ a) (λ i. number (slice_index_or pool i []))
    (λ i l. subst (λ k. number (slice_index_or pool i []) < 2 ^ k) (size i l) (number_less (slice_index_or pool i [])))
    (λ i j l h e.
    different i j [] l h (number_tells (slice_index_or pool i []) (slice_index_or pool j []) (size i (omega (arith, l, h)) ∙ sym (size j h)) e))
