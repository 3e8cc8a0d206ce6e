-- The laws of weighted sums of signed whole numbers over a list.
use Rattle.std.proofs.Common.{◌≡◌, ℤ, pos, ◌+ℤ◌, ◌*ℤ◌, ◌≤ℤ◌, List, [], ◌∷◌, ◌++◌, All, sym, refl, ap, ◌∙◌, arith}
use Rattle.std.proofs.lemmas.Int.{ints}
use Rattle.std.proofs.lemmas.List.Elements.{All-head, All-tail}
use Rattle.ps_meaning.specs.Sums.{sum_of}
use Rattle.ps_meaning.proofs.IntRing.{*ℤ-+ℤ, *ℤ-zero}

pub sum_of-append : {A : Type 0} (w : A → ℤ) (xs ys : List A) → sum_of w (xs ++ ys) ≡ sum_of w xs +ℤ sum_of w ys
sum_of-append w [] ys = omega (arith, ints)
sum_of-append w (x ∷ xs) ys = let e = sum_of-append w xs ys in omega (arith, ints, e)

pub sum_of-scale : {A : Type 0} (c : ℤ) (w : A → ℤ) (xs : List A) → c *ℤ sum_of w xs ≡ sum_of (λ x. c *ℤ w x) xs
sum_of-scale c w [] = *ℤ-zero c
sum_of-scale c w (x ∷ xs) = *ℤ-+ℤ c (w x) (sum_of w xs) ∙ ap (λ z. c *ℤ w x +ℤ z) (sum_of-scale c w xs)

pub sum_of-add : {A : Type 0} (v w : A → ℤ) (xs : List A) → sum_of (λ x. v x +ℤ w x) xs ≡ sum_of v xs +ℤ sum_of w xs
sum_of-add v w [] = omega (arith, ints)
sum_of-add v w (x ∷ xs) = let e = sum_of-add v w xs in omega (arith, ints, e)

pub sum_of_zeros : {A : Type 0} (w : A → ℤ) (xs : List A) → All (λ x. w x ≡ pos 0) xs → sum_of w xs ≡ pos 0
sum_of_zeros w [] h = refl
sum_of_zeros w (x ∷ xs) h =
    let e = sum_of_zeros w xs (All-tail (λ y. w y ≡ pos 0) x xs h) in
    let k = All-head (λ y. w y ≡ pos 0) x xs h in
    omega (arith, ints, e, k)

all_zeros : {A : Type 0} (xs : List A) → sum_of (λ _. pos 0) xs ≡ pos 0
all_zeros [] = refl
all_zeros (x ∷ xs) = let e = all_zeros xs in omega (arith, ints, e)

-- two sums change places
pub sum_of_swap : {A B : Type 0} (f : A → B → ℤ) (xs : List A) (ys : List B) → sum_of (λ x. sum_of (f x) ys) xs ≡ sum_of (λ y. sum_of (λ x. f x y) xs) ys
sum_of_swap f [] ys = sym (all_zeros ys)
sum_of_swap f (x ∷ xs) ys = ap (λ z. sum_of (f x) ys +ℤ z) (sum_of_swap f xs ys) ∙ sym (sum_of-add (f x) (λ y. sum_of (λ x'. f x' y) xs) ys)

-- a sum in which a single item counts
pub sum_of_single : {A : Type 0} (w : A → ℤ) (xs ys : List A) (x : A) → All (λ y. w y ≡ pos 0) xs → All (λ y. w y ≡ pos 0) ys → sum_of w (xs ++ x ∷ ys) ≡ w x
sum_of_single w xs ys x h k =
    let e = sum_of-append w xs (x ∷ ys) in
    let a = sum_of_zeros w xs h in
    let b = sum_of_zeros w ys k in
    omega (arith, ints, e, a, b)

-- sums keep the order
pub sum_of_at_most : {A : Type 0} (v w : A → ℤ) (xs : List A) → All (λ x. v x ≤ℤ w x) xs → sum_of v xs ≤ℤ sum_of w xs
sum_of_at_most v w [] h = omega (arith, ints)
sum_of_at_most v w (x ∷ xs) h =
    let e = sum_of_at_most v w xs (All-tail (λ y. v y ≤ℤ w y) x xs h) in
    let k = All-head (λ y. v y ≤ℤ w y) x xs h in
    omega (arith, ints, e, k)

pub sum_of_nonneg : {A : Type 0} (w : A → ℤ) (xs : List A) → All (λ x. pos 0 ≤ℤ w x) xs → pos 0 ≤ℤ sum_of w xs
sum_of_nonneg w [] h = omega (arith, ints)
sum_of_nonneg w (x ∷ xs) h =
    let e = sum_of_nonneg w xs (All-tail (λ y. pos 0 ≤ℤ w y) x xs h) in
    let k = All-head (λ y. pos 0 ≤ℤ w y) x xs h in
    omega (arith, ints, e, k)
