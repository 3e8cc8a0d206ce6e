-- Columns that the homes combine: a pivot of the homes pivots each of them.
use Rattle.std.proofs.Common.{◌≡◌, ◌≢◌, ℕ, suc, ◌+◌, ◌-◌, ◌<◌, ◌≤◌, List, [], ◌∷◌, ◌++◌, length, get_or, ℤ, pos, true, false, if◌then◌else◌, arith, refl, sym, ap, ◌∙◌, subst, inl, inr}
use Rattle.std.proofs.Common.{ltb}
use Rattle.std.proofs.lemmas.Bool.{cases_lt, lt-ltb, le-ltb}
use Rattle.std.proofs.Math.ListN.{get_or-append}
use Rattle.std.proofs.Math.Seq.{get_or-append_seam}
use Rattle.ps_meaning.specs.Rational.{Rational, mul, sub, div, inverse}
use Rattle.ps_meaning.specs.Sums.{sum_to}
use Rattle.ps_meaning.proofs.Ring.{var, plus, by, minus}
use Rattle.ps_meaning.proofs.Field.{ring_q, mul_comm}
use Rattle.ps_meaning.proofs.Sums.{sum_same, sum_scale, sum-sub, sum_swap}
use Rattle.ps_simplex.specs.Table.{Pivoted, carried_by}
use Rattle.ps_table.specs.Tableau.{world_entry, column_part, combined, extended}
use Rattle.ps_table.specs.Places.{price_part}

-- the right side and the homes are as they are kept
pub extended_home : (n : ℕ) (X : ℕ → ℕ → Rational) (worlds : List (List ℤ)) (i j : ℕ) → j ≤ n → extended n X worlds i j ≡ X i j
unfolding extended
extended_home n X worlds i j h = ap (λ b. if b then combined n X (get_or worlds (j - suc n) []) i else X i j) (le-ltb n j h)

-- all other columns are combined
pub extended_world : (n : ℕ) (X : ℕ → ℕ → Rational) (worlds : List (List ℤ)) (i j : ℕ) → n < j → extended n X worlds i j ≡ combined n X (get_or worlds (j - suc n) []) i
unfolding extended
extended_world n X worlds i j h = ap (λ b. if b then combined n X (get_or worlds (j - suc n) []) i else X i j) (lt-ltb n j h)

-- the same homes combine the same
pub combined_same : (n : ℕ) (X Y : ℕ → ℕ → Rational) (entries : List ℤ) (i : ℕ) → ((m : ℕ) → m < n → X i (suc m) ≡ Y i (suc m)) → combined n X entries i ≡ combined n Y entries i
combined_same n X Y entries i h = sum_same n (column_part X entries i) (column_part Y entries i) (λ m l. ap (λ k. mul k (world_entry entries m)) (h m l))

-- the row of a pivot
combined_row : (n p : ℕ) (X Y : ℕ → ℕ → Rational) (entries : List ℤ) (by_is : Rational) → ((m : ℕ) → m < n → Y p (suc m) ≡ div (X p (suc m)) by_is)
    → combined n Y entries p ≡ div (combined n X entries p) by_is
combined_row n p X Y entries by_is h =
    sum_same n (column_part Y entries p) (λ m. mul (inverse by_is) (column_part X entries p m))
    (λ m l. ap (λ k. mul k (world_entry entries m)) (h m l)
    ∙ ring_q (X p (suc m) ∷ inverse by_is ∷ world_entry entries m ∷ []) (by (by (var 0) (var 1)) (var 2)) (by (var 1) (by (var 0) (var 2))) refl)
    ∙ sym (sum_scale n (inverse by_is) (column_part X entries p))
    ∙ mul_comm (inverse by_is) (combined n X entries p)

-- another row
combined_other : (n p i : ℕ) (X Y : ℕ → ℕ → Rational) (entries : List ℤ) (factor : Rational)
    → ((m : ℕ) → m < n → Y i (suc m) ≡ sub (X i (suc m)) (mul factor (Y p (suc m))))
    → combined n Y entries i ≡ sub (combined n X entries i) (mul factor (combined n Y entries p))
combined_other n p i X Y entries factor h =
    sum_same n (column_part Y entries i) (λ m. sub (column_part X entries i m) (mul factor (column_part Y entries p m)))
    (λ m l. ap (λ k. mul k (world_entry entries m)) (h m l)
    ∙ ring_q (X i (suc m) ∷ factor ∷ Y p (suc m) ∷ world_entry entries m ∷ []) (by (plus (var 0) (minus (by (var 1) (var 2)))) (var 3)) (plus (by (var 0) (var 3)) (minus (by (var 1) (by (var 2) (var 3))))) refl)
    ∙ sum-sub n (column_part X entries i) (λ m. mul factor (column_part Y entries p m))
    ∙ ap (sub (combined n X entries i)) (sym (sum_scale n factor (column_part Y entries p)))

-- a pivot of the right side and the homes, by the entries of column q, is one of all columns
module _ (n w p q : ℕ) (X Y : ℕ → ℕ → Rational) (worlds : List (List ℤ)) (hp : p < n)
    (row : (j : ℕ) → j ≤ n → Y p j ≡ div (X p j) (extended n X worlds p q))
    (others : (i j : ℕ) → i < n → j ≤ n → i ≢ p → Y i j ≡ sub (X i j) (mul (extended n X worlds i q) (Y p j))) where
  abbrev E : ℕ → ℕ → Rational
  E = extended n X worlds

  abbrev F : ℕ → ℕ → Rational
  F = extended n Y worlds

  row_at : (j : ℕ) → F p j ≡ div (E p j) (E p q)
  row_at j = elim (cases_lt n j) [
    | inl l ↦
        extended_world n Y worlds p j l
        ∙ combined_row n p X Y (get_or worlds (j - suc n) []) (E p q) (λ m k. row (suc m) (omega (arith, k)))
        ∙ ap (λ x. div x (E p q)) (sym (extended_world n X worlds p j l))
    | inr l ↦ extended_home n Y worlds p j l ∙ row j l ∙ ap (λ x. div x (E p q)) (sym (extended_home n X worlds p j l))
  ]

  other_at : (i j : ℕ) → i < n → i ≢ p → F i j ≡ sub (E i j) (mul (E i q) (F p j))
  other_at i j hi ne = elim (cases_lt n j) [
    | inl l ↦
        extended_world n Y worlds i j l
        ∙ combined_other n p i X Y (get_or worlds (j - suc n) []) (E i q) (λ m k. others i (suc m) hi (omega (arith, k)) ne)
        ∙ (λ z. sub (sym (extended_world n X worlds i j l) z) (mul (E i q) (sym (extended_world n Y worlds p j l) z)))
    | inr l ↦
        extended_home n Y worlds i j l
        ∙ others i j hi l ne
        ∙ (λ z. sub (sym (extended_home n X worlds i j l) z) (mul (E i q) (sym (extended_home n Y worlds p j l) z)))
  ]

  pub pivots_extend : Pivoted n w p q E F
  pivots_extend = record { row = λ j _. row_at j; others = λ i j hi _ ne. other_at i j hi ne }

-- a world more
pub extended_before : (n : ℕ) (X : ℕ → ℕ → Rational) (worlds : List (List ℤ)) (entries : List ℤ) (i j : ℕ) → j < suc (n + length worlds)
    → extended n X (worlds ++ entries ∷ []) i j ≡ extended n X worlds i j
extended_before n X worlds entries i j h = elim (cases_lt n j) [
  | inl l ↦
      extended_world n X (worlds ++ entries ∷ []) i j l
      ∙ ap (λ es. combined n X es i) (get_or-append worlds (entries ∷ []) [] (j - suc n) (omega (arith, h, l)))
      ∙ sym (extended_world n X worlds i j l)
  | inr l ↦ extended_home n X (worlds ++ entries ∷ []) i j l ∙ sym (extended_home n X worlds i j l)
]

pub extended_here : (n : ℕ) (X : ℕ → ℕ → Rational) (worlds : List (List ℤ)) (entries : List ℤ) (i j : ℕ) → j ≡ suc (n + length worlds)
    → extended n X (worlds ++ entries ∷ []) i j ≡ combined n X entries i
extended_here n X worlds entries i j e =
    let at : j - suc n ≡ length worlds = omega (arith, e) in
    extended_world n X (worlds ++ entries ∷ []) i j (omega (arith, e))
    ∙ ap (λ k. combined n X (get_or (worlds ++ entries ∷ []) k []) i) at
    ∙ ap (λ es. combined n X es i) (get_or-append_seam worlds entries [] [])

-- what is carried of a combined column is its price by the multipliers of the homes
pub combined_price : (n : ℕ) (X : ℕ → ℕ → Rational) (entries : List ℤ) (cost : ℕ → Rational) (basic : ℕ → ℕ) (c : ℕ)
    → ((i : ℕ) → i < n → X i c ≡ combined n X entries i)
    → sum_to n (price_part (λ m. carried_by n cost basic X (suc m)) entries) ≡ carried_by n cost basic X c
combined_price n X entries cost basic c h =
    sym (
    sum_same n (λ i. mul (cost (basic i)) (X i c)) (λ i. sum_to n (λ m. mul (world_entry entries m) (mul (cost (basic i)) (X i (suc m)))))
    (λ i l. ap (mul (cost (basic i))) (h i l)
    ∙ sum_scale n (cost (basic i)) (column_part X entries i)
    ∙ sum_same n (λ m. mul (cost (basic i)) (column_part X entries i m)) (λ m. mul (world_entry entries m) (mul (cost (basic i)) (X i (suc m))))
    (λ m k. ring_q (cost (basic i) ∷ X i (suc m) ∷ world_entry entries m ∷ []) (by (var 0) (by (var 1) (var 2))) (by (var 2) (by (var 0) (var 1))) refl))
    ∙ sum_swap n n (λ i m. mul (world_entry entries m) (mul (cost (basic i)) (X i (suc m))))
    ∙ sum_same n (λ m. sum_to n (λ i. mul (world_entry entries m) (mul (cost (basic i)) (X i (suc m))))) (price_part (λ m. carried_by n cost basic X (suc m)) entries)
    (λ m k. sym (sum_scale n (world_entry entries m) (λ i. mul (cost (basic i)) (X i (suc m)))) ∙ mul_comm (world_entry entries m) (carried_by n cost basic X (suc m)))
    )
