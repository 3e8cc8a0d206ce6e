-- The model of a feasible table is a distribution that meets the rows, on at most as many worlds as the table has rows.
use Rattle.std.proofs.Common.{◌≡◌, ◌≢◌, ℕ, zero, suc, ◌+◌, ◌<◌, ◌≤◌, ℤ, pos, ◌≤ℤ◌, neg_ℤ, Bool, true, false, cond, ltb, lt-ltb, List, [], ◌∷◌, ◌++◌, length, get_or, All, AllPairs, sym, refl, ap, ◌∙◌, subst, arith, inl, inr}
use Rattle.std.proofs.lemmas.Int.{ints}
use Rattle.std.proofs.lemmas.Bool.{true≢false}
use Rattle.std.proofs.lemmas.List.{append-nil, get_or-map}
use Rattle.std.proofs.lemmas.List.Quantifiers.{all_pairs_push}
use Rattle.std.specs.Int.{◌∣◌, is_positive}
use Rattle.ps_meaning.specs.Rational.{Rational, whole, mul, neg, sub, zero_q}
use Rattle.ps_meaning.specs.Order.{IsNonneg}
use Rattle.ps_meaning.specs.Sums.{sum_to}
use Rattle.ps_meaning.proofs.Ring.{var, plus, by, minus, none, unit}
use Rattle.ps_meaning.proofs.Field.{ring_q, zero_over, zero_is_fraction}
use Rattle.ps_meaning.proofs.Order.{nonneg-mul}
use Rattle.ps_meaning.proofs.Whole.{whole_nonneg, nonneg_whole, whole-neg}
use Rattle.ps_meaning.specs.Formula.{World}
use Rattle.ps_meaning.specs.Distribution.{Entry, weight, IsDistribution}
use Rattle.ps_meaning.specs.declared.side.Side.{Side}
use Rattle.ps_meaning.specs.declared.side.Side.TheVariants.{AtLeast, AtMost as Most, Exactly}
use Rattle.ps_meaning.specs.Bounds.{Compares}
use Rattle.ps_meaning.specs.Rows.{Row, row_in, weighted_sum}
use Rattle.ps_meaning.proofs.Rows.{weighted_sum-indicator}
use Rattle.ps_simplex.specs.Table.{unit_at}
use Rattle.ps_simplex.proofs.Units.{less_one, unit_at-same, unit_at-other}
use Rattle.ps_simplex.specs.Rule.{SimplexTable, IsFeasible}
use Rattle.ps_problem.specs.Rows.{signed_by}
use Rattle.ps_claims.specs.Rows.{MeetsRows}
use Rattle.ps_runs.specs.Rows.{Setting, is_exact, entry_in, entries_of, artificial_rows, rows_of, table_of, IsTable}
use Rattle.ps_runs.specs.Certificates.{value_of, is_above, weight_multiple, entries_to, weighted_worlds}
use Rattle.ps_runs.proofs.Combination.{neg_out}
use Rattle.ps_runs.proofs.BasicSolution.{find_row, value_apart, value_here, value_nonneg, value_artificial, row_solved}
use Rattle.ps_runs.proofs.Weights.{weighted_sum-same, entries_weigh, entries_heavy, entries_have}
use Rattle.ps_runs.proofs.Counts.{entries_at_most}
use Rattle.ps_meaning.proofs.Scaling.{whole_tells}
use Rattle.ps_meaning.proofs.Multiples.{lcm_to_positive, lcm_to_multiple}
use Rattle.ps_meaning.specs.Scaled.{scaled}

cond_positive : (b : Bool) (a : ℕ) → 0 < a → 0 < cond b a 1
cond_positive true a h = h
cond_positive false a h = omega arith

module _ (s : Setting) (pool : List World) (basic : ℕ → ℕ) (X : ℕ → ℕ → Rational) (t : IsTable s pool basic X) where
  abbrev n : ℕ
  n = rows_of s

  abbrev f : SimplexTable
  f = table_of s pool basic X

  abbrev big : ℕ
  big = weight_multiple f

  abbrev under_in : ℕ → ℕ
  under_in i = cond (ltb (rows_of s) (basic i)) (X i 0).under 1

  pub under_positive : (i : ℕ) → i < n → 0 < under_in i
  under_positive i l = cond_positive (ltb (rows_of s) (basic i)) (X i 0).under (X i 0).lowest.positive

  pub big_positive : 0 < big
  big_positive = lcm_to_positive n under_in under_positive

  -- a world of value above 0 is basic in a row
  pub row_of : (k : ℕ) → is_above (value_of f (suc (n + k))) ≡ true → (p : ℕ) × (p < n) × (basic p ≡ suc (n + k))
  row_of k e =
      elim (find_row n basic (suc (n + k))) [
        | inl p ↦ p
        | inr ne ↦
            let z = zero_over (value_of f (suc (n + k))) (value_apart s pool basic X t (suc (n + k)) ne) in
            absurd (true≢false (sym e ∙ ap is_positive z))
      ]

  pub divides : (k : ℕ) → is_above (value_of f (suc (n + k))) ≡ true → (value_of f (suc (n + k))).under ∣ big
  divides k e =
      let row = row_of k e in
      let v : value_of f (suc (n + k)) ≡ X row.0 0 = ap (value_of f) (sym row.2) ∙ value_here s pool basic X t row.0 row.1 in
      let far : ltb n (basic row.0) ≡ true = lt-ltb n (basic row.0) (omega (arith, row.2)) in
      let same : under_in row.0 ≡ (X row.0 0).under = ap (λ b. cond b (X row.0 0).under 1) far in
      subst (λ x. x.under ∣ big) (sym v) (subst (λ m. m ∣ big) same (lcm_to_multiple n under_in under_positive row.0 row.1))

  -- the sum of any function over the model
  pub model_sum : (G : World → ℤ) → whole (weighted_sum (weighted_worlds f pool) G) ≡ mul (whole (pos big)) (sum_to (length pool) (λ i. mul (value_of f (suc (n + i))) (whole (G (get_or pool i [])))))
  model_sum G = entries_weigh f big pool G (length pool) (λ i l. value_nonneg s pool basic X t (suc (n + i))) (λ i l. divides i)

  -- the sum of a row
  pub row_sum : (m : ℕ) → m < n → whole (weighted_sum (weighted_worlds f pool) (λ w. get_or (entries_of s w) m (pos 0))) ≡ mul (whole (pos big)) (sub (unit_at m 0) (value_of f (suc m)))
  row_sum m h = model_sum (λ w. get_or (entries_of s w) m (pos 0)) ∙ ap (mul (whole (pos big))) (row_solved s pool basic X t m h)

  artificial_zero : (m : ℕ) → IsFeasible f → get_or (artificial_rows s) m false ≡ true → value_of f (suc m) ≡ zero_q
  artificial_zero m feasible e = value_artificial s pool basic X t (suc m) feasible (ap (λ k. get_or (artificial_rows s) k false) (less_one m) ∙ e)

  -- the evidence weighs the multiple
  pub evidence_weight : IsFeasible f → weight (weighted_worlds f pool) s.query.evidence ≡ pos big
  evidence_weight feasible =
      whole_tells (weight (weighted_worlds f pool) s.query.evidence) (pos big)
      (ap whole (sym (weighted_sum-indicator (weighted_worlds f pool) s.query.evidence))
      ∙ row_sum 0 (omega arith)
      ∙ ap (λ k. mul (whole (pos big)) (sub (unit_at 0 0) k)) (artificial_zero 0 feasible refl)
      ∙ ap (λ k. mul (whole (pos big)) (sub k zero_q)) (unit_at-same 0)
      ∙ ring_q (whole (pos big) ∷ []) (by (var 0) (plus unit (minus none))) (var 0) refl)

  row_is : (i : ℕ) → i < length s.rows → whole (weighted_sum (weighted_worlds f pool) (λ w. get_or (entries_of s w) (suc i) (pos 0))) ≡ neg (mul (whole (pos big)) (value_of f (suc (suc i))))
  row_is i l =
      row_sum (suc i) (omega arith)
      ∙ ap (λ k. mul (whole (pos big)) (sub k (value_of f (suc (suc i))))) (unit_at-other (suc i) 0 (omega arith))
      ∙ ring_q (whole (pos big) ∷ (value_of f (suc (suc i)) ∷ [])) (by (var 0) (plus none (minus (var 1)))) (minus (by (var 0) (var 1))) refl

  row_low : (i : ℕ) → i < length s.rows → weighted_sum (weighted_worlds f pool) (λ w. get_or (entries_of s w) (suc i) (pos 0)) ≤ℤ pos 0
  row_low i l =
      let z = weighted_sum (weighted_worlds f pool) (λ w. get_or (entries_of s w) (suc i) (pos 0)) in
      let v = mul (whole (pos big)) (value_of f (suc (suc i))) in
      let up : IsNonneg v = nonneg-mul (whole (pos big)) (value_of f (suc (suc i))) (whole_nonneg (pos big) (omega (arith, ints))) (value_nonneg s pool basic X t (suc (suc i))) in
      let e : whole (neg_ℤ z) ≡ v = sym (whole-neg z) ∙ ap neg (row_is i l) ∙ ring_q (v ∷ []) (minus (minus (var 0))) (var 0) refl in
      let k = nonneg_whole (neg_ℤ z) (subst IsNonneg (sym e) up) in
      omega (arith, ints, k)

  row_zero : (i : ℕ) → i < length s.rows → IsFeasible f → get_or (artificial_rows s) (suc i) false ≡ true → weighted_sum (weighted_worlds f pool) (λ w. get_or (entries_of s w) (suc i) (pos 0)) ≡ pos 0
  row_zero i l feasible e =
      whole_tells (weighted_sum (weighted_worlds f pool) (λ w. get_or (entries_of s w) (suc i) (pos 0))) (pos 0)
      (row_is i l ∙ ap (λ k. neg (mul (whole (pos big)) k)) (artificial_zero (suc i) feasible e) ∙ ring_q (whole (pos big) ∷ []) (minus (by (var 0) none)) none refl ∙ sym zero_is_fraction)

  turned_sum : (side : Side) (d : List Entry) (G : World → ℤ) → weighted_sum d (λ w. signed_by side (G w)) ≡ signed_by side (weighted_sum d G)
  turned_sum AtLeast [] G = refl
  turned_sum AtLeast (e ∷ d) G =
      let h = turned_sum AtLeast d G in
      let k = neg_out e.weight (G e.world) in
      omega (arith, ints, h, k)
  turned_sum Most d G = refl
  turned_sum Exactly d G = refl

  compares : (side : Side) (z : ℤ) → signed_by side z ≤ℤ pos 0 → (is_exact side ≡ true → signed_by side z ≡ pos 0) → Compares side z (pos 0)
  compares AtLeast z h e = omega (arith, ints, h)
  compares Most z h e = h
  compares Exactly z h e = e refl

  pub rows_met : IsFeasible f → MeetsRows s.rows (weighted_worlds f pool)
  rows_met feasible = λ i r l.
      let c : Row = get_or s.rows i r in
      let e : weighted_sum (weighted_worlds f pool) (λ w. get_or (entries_of s w) (suc i) (pos 0)) ≡ signed_by c.side (weighted_sum (weighted_worlds f pool) (row_in c)) =
      weighted_sum-same (weighted_worlds f pool) (λ w. get_or (entries_of s w) (suc i) (pos 0)) (λ w. signed_by c.side (row_in c w)) (λ w. get_or-map (entry_in w) s.rows i r (pos 0) l)
      ∙ turned_sum c.side (weighted_worlds f pool) (row_in c) in
      compares c.side (weighted_sum (weighted_worlds f pool) (row_in c)) (subst (λ z. z ≤ℤ pos 0) e (row_low i l))
      (λ x. sym e ∙ row_zero i l feasible (get_or-map (λ (a : Row). is_exact a.side) s.rows i r false l ∙ x))

  pub few_worlds : length (weighted_worlds f pool) ≤ suc (length s.rows)
  few_worlds = entries_at_most f big pool (length pool) (λ i l. row_of i)

  different_to : (k : ℕ) → k ≤ length pool → AllPairs (λ u v. u ≢ v) pool → AllPairs (λ (e e' : Entry). e.world ≢ e'.world) (entries_to f big pool k)
  different_to zero h apart = λ i j d l m. absurd (omega arith)
  different_to (suc k) h apart = cases (is_above (value_of f (suc (n + k)))) (different_to k (omega arith) apart)
    where
      cases : (b : Bool) → AllPairs (λ (e e' : Entry). e.world ≢ e'.world) (entries_to f big pool k) → AllPairs (λ (e e' : Entry). e.world ≢ e'.world) (entries_to f big pool k ++ cond b (record { weight = scaled big (value_of f (suc (n + k))); world = get_or pool k [] } ∷ []) [])
      cases true before =
          all_pairs_push (λ (e e' : Entry). e.world ≢ e'.world) (entries_to f big pool k) (record { weight = scaled big (value_of f (suc (n + k))); world = get_or pool k [] })
          before
          (entries_have (λ w. w ≢ get_or pool k []) f big pool k (λ i l. apart i k [] l (omega arith)))
      cases false before = subst (AllPairs (λ (e e' : Entry). e.world ≢ e'.world)) (sym (append-nil (entries_to f big pool k))) before

  some_entry : (d : List Entry) → weight d s.query.evidence ≡ pos big → 0 < length d
  some_entry [] e = let h = big_positive in absurd (omega (arith, ints, e, h))
  some_entry (x ∷ d) e = omega arith

  pub is_distribution : (atoms : ℕ) → IsFeasible f → AllPairs (λ u v. u ≢ v) pool → All (λ (w : World). length w ≡ atoms) pool → IsDistribution atoms (weighted_worlds f pool)
  is_distribution atoms feasible apart sized = record {
    some = some_entry (weighted_worlds f pool) (evidence_weight feasible);
    worlds = entries_have (λ w. length w ≡ atoms) f big pool (length pool) (λ i l. sized i [] l);
    weighed = entries_heavy f big pool (length pool) big_positive (λ i l. divides i);
    different = different_to (length pool) (omega arith) apart;
  }
