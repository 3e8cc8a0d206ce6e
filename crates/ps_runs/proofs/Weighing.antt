-- The entry of a world in a table's model is told by the weight of the row in which it is basic.
use Rattle.std.proofs.Common.{◌≡◌, ◌≢◌, ℕ, zero, suc, ◌+◌, ◌*◌, ◌/◌, ◌<◌, ℤ, pos, negsuc, ◌*ℤ◌, ◌≤ℤ◌, true, false, cond, ltb, lt-ltb, List, [], ◌∷◌, sym, ap, ◌∙◌, subst, arith}
use Rattle.std.proofs.lemmas.Int.{ints}
use Rattle.std.proofs.Math.Nat.{mul-pos}
use Rattle.std.specs.Int.{◌∣◌, is_positive}
use Rattle.ps_meaning.specs.Parts.{part_pos}
use Rattle.ps_meaning.specs.Rational.{Rational}
use Rattle.ps_meaning.specs.Scaled.{scaled}
use Rattle.ps_meaning.proofs.Field.{zero_over}
use Rattle.ps_meaning.proofs.IntRing.{*ℤ_comm}
use Rattle.ps_meaning.proofs.Integers.{mul-nonpos}
use Rattle.ps_meaning.proofs.Multiples.{lcm_to_multiple}
use Rattle.ps_meaning.specs.Formula.{World}
use Rattle.ps_simplex.specs.Rule.{SimplexTable}
use Rattle.ps_table.specs.Places.{weight_under, weight_at}
use Rattle.ps_runs.specs.Rows.{Setting, rows_of, table_of, IsTable}
use Rattle.ps_runs.specs.Certificates.{value_of, weight_multiple, entry_for, entry_weighing}
use Rattle.ps_runs.proofs.BasicSolution.{value_apart, value_here}
use Rattle.ps_runs.proofs.Models.{under_positive, big_positive}

not_positive : (z : ℤ) → z ≤ℤ pos 0 → is_positive z ≡ false
not_positive z h = grind (arith, ints)

positive : (n : ℕ) → 0 < n → is_positive (pos n) ≡ true
positive n h = lt-ltb 0 n h

low_times : (z : ℤ) (c : ℕ) → z ≤ℤ pos 0 → (z *ℤ pos c) ≤ℤ pos 0
low_times z c h = subst (λ x. x ≤ℤ pos 0) (*ℤ_comm (pos c) z) (mul-nonpos (pos c) z (omega (arith, ints)) h)

-- a number is above 0 where a positive multiple of it is
pub positive_times : (z : ℤ) (c : ℕ) → 0 < c → is_positive (z *ℤ pos c) ≡ is_positive z
positive_times (pos zero) c h = not_positive (pos zero *ℤ pos c) (low_times (pos zero) c (omega (arith, ints)))
positive_times (pos (suc n)) c h = positive (suc n * c) (mul-pos (omega arith) h) ∙ sym (positive (suc n) (omega arith))
positive_times (negsuc n) c h = not_positive (negsuc n *ℤ pos c) (low_times (negsuc n) c (omega (arith, ints)))

entry_is : (big : ℕ) (x : Rational) (w : World) → 0 < big → x.under ∣ big → entry_for big x w ≡ entry_weighing (scaled big x) w
entry_is big x w some d =
    ap (λ b. cond b (record { weight = scaled big x; world = w } ∷ []) [])
    (sym (positive_times x.over (big / x.under) (part_pos big x.under some d)))

module _ (s : Setting) (pool : List World) (basic : ℕ → ℕ) (X : ℕ → ℕ → Rational) (t : IsTable s pool basic X) where
  abbrev n : ℕ
  n = rows_of s

  abbrev f : SimplexTable
  f = table_of s pool basic X

  -- a world that is basic in a row weighs what the row does
  pub entry_of_row : (i k : ℕ) (w : World) → i < n → basic i ≡ suc (n + k)
      → entry_for (weight_multiple f) (value_of f (suc (n + k))) w ≡ entry_weighing (weight_at n basic X i) w
  entry_of_row i k w l e =
      let far : ltb n (basic i) ≡ true = lt-ltb n (basic i) (omega (arith, e)) in
      let under : weight_under n basic X i ≡ (X i 0).under = ap (λ b. cond b (X i 0).under 1) far in
      let divides = subst (λ m. m ∣ weight_multiple f) under (lcm_to_multiple n (weight_under n basic X) (under_positive s pool basic X t) i l) in
      ap (λ x. entry_for (weight_multiple f) x w) (ap (value_of f) (sym e) ∙ value_here s pool basic X t i l)
      ∙ entry_is (weight_multiple f) (X i 0) w (big_positive s pool basic X t) divides
      ∙ ap (λ z. entry_weighing z w) (sym (ap (λ b. cond b (scaled (weight_multiple f) (X i 0)) (pos 0)) far))

  -- a world that is basic in none isn't there
  pub no_entry : (k : ℕ) (w : World) → ((i : ℕ) → i < n → basic i ≢ suc (n + k)) → entry_for (weight_multiple f) (value_of f (suc (n + k))) w ≡ []
  no_entry k w none =
      ap (λ b. cond b (record { weight = scaled (weight_multiple f) (value_of f (suc (n + k))); world = w } ∷ []) [])
      (ap is_positive (zero_over (value_of f (suc (n + k))) (value_apart s pool basic X t (suc (n + k)) none)))
