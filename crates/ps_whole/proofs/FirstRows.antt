-- The numbers and the denominators of the first rows.
use Rattle.std.proofs.Common.{◌≡◌, ◌≢◌, ℕ, zero, suc, ◌+◌, ◌-◌, ◌*◌, ◌/◌, ◌%◌, ◌<◌, ◌^◌, List, [], ◌∷◌, ◌++◌, get_or, length, ℤ, pos, unsigned_abs, cond, eq-eqb, arith, refl, sym, ap, ◌∙◌, subst, inl, inr}
use Rattle.std.proofs.lemmas.Bool.{cases_eq, ne_eqb}
use Rattle.std.proofs.lemmas.List.{get_or_append_left, length-append}
use Rattle.std.proofs.lemmas.Nat.{mod-mul-add, div-mul-add}
use Rattle.std.proofs.Math.Seq.{get_or-append_seam}
use Rattle.ps_whole.specs.Homes.{home_at, AreHomesTo, AreOnesTo, IsOfHomes}
use Rattle.ps_whole.proofs.Pushed.{row_within}

pub home_one : (i j : ℕ) → i ≡ j - 1 → pos 1 ≡ home_at i j
home_one i j e = sym (ap (λ b. cond b (pos 1) (pos 0)) (eq-eqb i (j - 1) e))

pub home_zero : (i j : ℕ) → i ≢ j - 1 → pos 0 ≡ home_at i j
home_zero i j ne = sym (ap (λ b. cond b (pos 1) (pos 0)) (ne_eqb i (j - 1) ne))

pub smalls_more : (now : List ℤ) (v : ℤ) → ((k : ℕ) → unsigned_abs (get_or now k (pos 0)) < 2 ^ 62) → unsigned_abs v < 2 ^ 62
    → (k : ℕ) → unsigned_abs (get_or (now ++ v ∷ []) k (pos 0)) < 2 ^ 62
smalls_more [] v h hv zero = hv
smalls_more [] v h hv (suc k) = omega arith
smalls_more (x ∷ xs) v h hv zero = h 0
smalls_more (x ∷ xs) v h hv (suc k) = smalls_more xs v (λ m. h (suc m)) hv k

ones_more : (now : List ℕ) → ((k : ℕ) → get_or now k 1 ≡ 1) → (k : ℕ) → get_or (now ++ 1 ∷ []) k 1 ≡ 1
ones_more [] h zero = refl
ones_more [] h (suc k) = refl
ones_more (x ∷ xs) h zero = h 0
ones_more (x ∷ xs) h (suc k) = ones_more xs (λ m. h (suc m)) k

pub no_homes : (rows : ℕ) → AreHomesTo rows 0 []
no_homes rows = record { count = refl; small = λ k. omega arith; here = λ k l. absurd (omega (arith, l)) }

-- one number more
pub homes_next : (rows n : ℕ) (now items : List ℤ) (v : ℤ) → AreHomesTo rows n now → items ≡ now ++ v ∷ []
    → v ≡ home_at (n / suc rows) (n % suc rows) → unsigned_abs v < 2 ^ 62 → AreHomesTo rows (n + 1) items
homes_next rows n now items v h e value small =
    let count : length items ≡ length now + 1 = ap (λ zs. length zs) e ∙ length-append now (v ∷ []) in
    let last : get_or items n (pos 0) ≡ v = ap (λ k. get_or items k (pos 0)) (sym h.count) ∙ ap (λ zs. get_or zs (length now) (pos 0)) e ∙ get_or-append_seam now v [] (pos 0) in
    record {
      count = omega (arith, count, h.count);
      small = λ k. subst (λ zs. unsigned_abs (get_or zs k (pos 0)) < 2 ^ 62) (sym e) (smalls_more now v h.small small k);
      here = λ k l. elim (cases_eq k n) [
        | inl same ↦ subst (λ m. get_or items m (pos 0) ≡ home_at (m / suc rows) (m % suc rows)) (sym same) (last ∙ value)
        | inr ne ↦ ap (λ zs. get_or zs k (pos 0)) e ∙ get_or_append_left now (v ∷ []) (pos 0) k (omega (arith, h.count, l, ne)) ∙ h.here k (omega (arith, l, ne))
      ];
    }

pub no_ones : AreOnesTo 0 []
no_ones = record { count = refl; ones = λ k. refl }

-- one denominator more
pub ones_next : (n : ℕ) (now items : List ℕ) → AreOnesTo n now → items ≡ now ++ 1 ∷ [] → AreOnesTo (n + 1) items
ones_next n now items h e =
    let count : length items ≡ length now + 1 = ap (λ zs. length zs) e ∙ length-append now (1 ∷ []) in
    record {
      count = omega (arith, count, h.count);
      ones = λ k. ap (λ zs. get_or zs k 1) e ∙ ones_more now h.ones k;
    }

pub homes_are : (rows k : ℕ) (numbers : List ℤ) (unders : List ℕ) → AreHomesTo rows (rows * suc rows) numbers → AreOnesTo rows unders → k ≡ suc rows
    → IsOfHomes rows (record { rows = rows; width = k; numbers = numbers; unders = unders })
homes_are rows k numbers unders h o e = record {
  rows_are = refl;
  width_is = e;
  numbers = λ i j hi hj.
      let within : j < suc rows = omega (arith, hj) in
      ap (λ m. get_or numbers (i * m + j) (pos 0)) e
      ∙ h.here (i * suc rows + j) (row_within i j rows (suc rows) hi within)
      ∙ (λ z. home_at (div-mul-add i (suc rows) j within z) (mod-mul-add i (suc rows) j within z));
  unders = o.ones;
}
