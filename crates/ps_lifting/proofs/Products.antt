-- Sums of products, one place on.
use Rattle.std.proofs.Common.{◌≡◌, ℕ, suc, ◌+◌, ◌<◌, ◌≤◌, ℤ, ◌+ℤ◌, ◌*ℤ◌, List, [], ◌∷◌, length, get_or, take, drop, drop-cons, arith, sym, ap, ◌∙◌}
use Rattle.std.proofs.lemmas.Int.{ints}
use Rattle.std.proofs.lemmas.List.{drop_all}
use Rattle.std.specs.List.{AllZip}
use Rattle.std.proofs.lemmas.List.{take_more, take_all}
use Rattle.std.proofs.lemmas.Slice.Zip.{all_zipped_more}
use Rattle.ps_lifting.specs.Systems.{dot_product, Meets}

-- what is left at a place begins with the number there
pub drop-number : (xs : List ℤ) (i : ℕ) (x d : ℤ) → i < length xs → x ≡ get_or xs i d → drop i xs ≡ x ∷ drop (i + 1) xs
drop-number xs i x d h e = let k : i + 1 ≡ suc i = omega arith in rw k (drop-cons xs i d h ∙ ap (λ x. x ∷ drop (suc i) xs) (sym e))

pub dot_product_more : (row xs : List ℤ) (i : ℕ) (a x s n d e : ℤ) → i < length row → i < length xs → a ≡ get_or row i d → x ≡ get_or xs i e
    → s +ℤ dot_product (drop i row) (drop i xs) ≡ n → (s +ℤ (a *ℤ x)) +ℤ dot_product (drop (i + 1) row) (drop (i + 1) xs) ≡ n
dot_product_more row xs i a x s n d e in_row in_xs at_row at_xs so_far =
    let now = rw (drop-number row i a d in_row at_row, drop-number xs i x e in_xs at_xs) at so_far in
    omega (arith, ints, now)

pub dot_product_all : (row xs : List ℤ) (i : ℕ) (s n : ℤ) → length row ≤ i → s +ℤ dot_product (drop i row) (drop i xs) ≡ n → s ≡ n
dot_product_all row xs i s n h so_far = let d : drop i row ≡ [] = drop_all i row h in omega (arith, ints, rw d at so_far)

-- one more row is met
pub met_more : (x : List ℤ) (n : ℤ) (rows : List (List ℤ)) (right : List ℤ) (i : ℕ) (row : List ℤ) (b : ℤ) → i < length rows → length rows ≡ length right
    → AllZip (Meets x n) (take i rows) (take i right) → Meets x n (get_or rows i row) (get_or right i b) → AllZip (Meets x n) (take (i + 1) rows) (take (i + 1) right)
met_more x n rows right i row b lt long met more =
    rw (take_more rows i row lt, take_more right i b (omega (arith, lt, long))) (all_zipped_more (Meets x n) (take i rows) (take i right) (get_or rows i row) (get_or right i b) met more)

pub met_all : (x : List ℤ) (n : ℤ) (rows : List (List ℤ)) (right : List ℤ) (i : ℕ) → length rows ≡ length right → ¬ (i < length rows)
    → AllZip (Meets x n) (take i rows) (take i right) → AllZip (Meets x n) rows right
met_all x n rows right i long past met = rw (take_all i rows (omega (arith, past)), take_all i right (omega (arith, past, long))) at met
