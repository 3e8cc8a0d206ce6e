-- How the phases end: a phase that rests above 0 shows that nothing is allowed, and the model of a side reaches its value.
use Rattle.std.proofs.Common.{◌≡◌, ◌≢◌, ℕ, zero, suc, ◌+◌, ◌-◌, ◌<◌, ℤ, pos, ◌*ℤ◌, ◌≤ℤ◌, neg_ℤ, Bool, true, false, cond, List, [], ◌∷◌, length, get_or, sym, refl, ap, ◌∙◌, subst, arith, inl, inr}
use Rattle.std.proofs.lemmas.Int.{ints}
use Rattle.std.proofs.lemmas.List.{get_or_past}
use Rattle.ps_meaning.specs.Rational.{Rational, whole, add, mul, neg, zero_q, one_q}
use Rattle.ps_meaning.specs.Order.{IsNonneg}
use Rattle.ps_meaning.specs.Sums.{sum_to}
use Rattle.ps_meaning.proofs.IntRing.{neg-*ℤ}
use Rattle.ps_meaning.proofs.Ring.{var, plus, by, minus, none, unit}
use Rattle.ps_meaning.proofs.Field.{ring_q, mul_comm, zero_is_fraction}
use Rattle.ps_meaning.proofs.Order.{int_cases, nonneg-mul, both_signs}
use Rattle.ps_meaning.proofs.Sums.{sum_same, sum_of_zeros, sum_nonneg, sum_parts_zero, sum_split}
use Rattle.ps_meaning.proofs.Whole.{whole_nonneg, whole-mul, whole-neg, unscaled}
use Rattle.ps_meaning.specs.Formula.{World}
use Rattle.ps_meaning.specs.Distribution.{Entry, weight}
use Rattle.ps_meaning.specs.Rows.{indicator, weighted_sum}
use Rattle.ps_meaning.proofs.Rows.{weighted_sum-indicator}
use Rattle.ps_simplex.proofs.Pricing.{value_is_multiplier}
use Rattle.ps_simplex.proofs.Units.{less_one}
use Rattle.ps_simplex.specs.Rule.{SimplexTable, IsFeasible}
use Rattle.ps_runs.specs.Rows.{Setting, both_of, artificial_rows, rows_of, columns_of, width_of, cost_of, home_cost, world_cost, table_of, IsTable}
use Rattle.ps_runs.specs.Certificates.{value_of, weight_multiple, weighted_worlds, table_dual, multiple_of, whole_multiplier}
use Rattle.ps_runs.proofs.Combination.{multiple_positive, multiplier_scaled, neg_out}
use Rattle.std.proofs.lemmas.Bool.{true≢false}
use Rattle.ps_runs.proofs.Columns.{rows_length, home_cost_at, world_cost_at, artificial_cost}
use Rattle.ps_runs.proofs.BasicSolution.{column_cases, basic_sum, value_right}
use Rattle.ps_runs.proofs.Models.{model_sum, evidence_weight}
use Rattle.ps_meaning.proofs.Scaling.{whole_tells}
use Rattle.ps_simplex.specs.RuleLaws.{multipliers}
use Rattle.ps_claims.specs.declared.claim_kind.ClaimKind.{ClaimKind}
use Rattle.ps_claims.specs.declared.claim_kind.ClaimKind.TheVariants.{Nothing, Lower, Upper}

unit_nonneg : (b : Bool) → IsNonneg (whole (cond b (pos 1) (pos 0)))
unit_nonneg true = whole_nonneg (pos 1) (omega (arith, ints))
unit_nonneg false = whole_nonneg (pos 0) (omega (arith, ints))

first_cost_nonneg : (s : Setting) (pool : List World) (j : ℕ) → 0 < j → j < width_of s pool → IsNonneg (cost_of Nothing s pool j)
first_cost_nonneg s pool j h k =
    elim (column_cases (rows_of s) (length pool) j h k) [
      | inl p ↦ subst (λ x. IsNonneg (cost_of Nothing s pool x)) (sym p.2) (subst IsNonneg (sym (home_cost_at Nothing s pool p.0 p.1)) (unit_nonneg (get_or (artificial_rows s) p.0 false)))
      | inr p ↦ subst (λ x. IsNonneg (cost_of Nothing s pool x)) (sym p.2) (subst IsNonneg (sym (world_cost_at Nothing s pool p.0 p.1)) (whole_nonneg (pos 0) (omega (arith, ints))))
    ]

module _ (s : Setting) (pool : List World) (basic : ℕ → ℕ) (X : ℕ → ℕ → Rational) (t : IsTable s pool basic X) where
  abbrev n : ℕ
  n = rows_of s

  abbrev f : SimplexTable
  f = table_of s pool basic X

  -- the value of a phase is the multipliers of row 0
  phase_value : (kind : ClaimKind) → sum_to n (λ i. mul (cost_of kind s pool (basic i)) (X i 0)) ≡ multipliers f (cost_of kind s pool) 0
  phase_value kind = value_is_multiplier n (width_of s pool) (columns_of s pool) X basic (cost_of kind s pool) (omega arith) (omega arith) t.stands

  -- no world is artificial
  no_world : (k : ℕ) → get_or (artificial_rows s) (rows_of s + k) false ≡ true → ⊥
  no_world k e = true≢false (sym e ∙ get_or_past (artificial_rows s) (rows_of s + k) false (omega (arith, rows_length s)))

  parts_nonneg : (i : ℕ) → i < n → IsNonneg (mul (cost_of Nothing s pool (basic i)) (X i 0))
  parts_nonneg i l = nonneg-mul (cost_of Nothing s pool (basic i)) (X i 0) (first_cost_nonneg s pool (basic i) (t.first i l) (t.last i l)) (t.values i l)

  -- where phase one's value is 0 the table is feasible
  zero_feasible : sum_to n (λ i. mul (cost_of Nothing s pool (basic i)) (X i 0)) ≡ zero_q → IsFeasible f
  zero_feasible e = record {
    zero = λ i l art.
        let z = sum_parts_zero n (λ i. mul (cost_of Nothing s pool (basic i)) (X i 0)) parts_nonneg e i l in
        let one : cost_of Nothing s pool (basic i) ≡ one_q =
        elim (column_cases (rows_of s) (length pool) (basic i) (t.first i l) (t.last i l)) [
          | inl p ↦ ap (cost_of Nothing s pool) p.2 ∙ artificial_cost s pool p.0 p.1 (sym (ap (λ k. get_or (artificial_rows s) k false) (ap (λ j. j - 1) p.2 ∙ less_one p.0)) ∙ art)
          | inr p ↦ absurd (no_world p.0 (sym (ap (λ k. get_or (artificial_rows s) k false) (ap (λ j. j - 1) p.2 ∙ less_one (rows_of s + p.0))) ∙ art))
        ] in
        ring_q (X i 0 ∷ []) (var 0) (by unit (var 0)) refl ∙ ap (λ k. mul k (X i 0)) (sym one) ∙ z;
  }

  -- phase one rests above 0: the head is at least 1
  pub head_above : (IsFeasible f → ⊥) → pos 1 ≤ℤ whole_multiplier f (cost_of Nothing s pool) 0
  head_above unfinished =
      let cost = cost_of Nothing s pool in
      let p = whole_multiplier f cost 0 in
      let m = multipliers f cost 0 in
      let up : IsNonneg m = subst IsNonneg (phase_value Nothing) (sum_nonneg n (λ i. mul (cost_of Nothing s pool (basic i)) (X i 0)) parts_nonneg) in
      elim (int_cases (pos 0) p) [
        | inl h ↦ omega (arith, ints, h)
        | inr h ↦
            let low : IsNonneg (whole (neg_ℤ p)) = whole_nonneg (neg_ℤ p) (omega (arith, ints, h)) in
            let big : Rational = whole (pos (multiple_of f cost)) in
            let e : whole (neg_ℤ p) ≡ mul big (neg m) = sym (whole-neg p) ∙ ap neg (multiplier_scaled f cost 0 (omega arith)) ∙ ring_q (big ∷ (m ∷ [])) (minus (by (var 0) (var 1))) (by (var 0) (minus (var 1))) refl in
            let down : IsNonneg (neg m) = unscaled (multiple_of f cost) (neg m) (multiple_positive f cost) (subst IsNonneg e low) in
            absurd (unfinished (zero_feasible (phase_value Nothing ∙ both_signs m up down)))
      ]

  -- a side's homes cost nothing
  module _ (kind : ClaimKind) (free : (b : Bool) → home_cost kind b ≡ pos 0) where
    homes_free : sum_to (suc n) (λ j. mul (value_of f j) (cost_of kind s pool j)) ≡ zero_q
    homes_free = sum_same (suc n) (λ j. mul (value_of f j) (cost_of kind s pool j)) (λ _. zero_q) each ∙ sum_of_zeros (suc n)
      where
        each : (j : ℕ) → j < suc n → mul (value_of f j) (cost_of kind s pool j) ≡ zero_q
        each zero l = ap (λ k. mul k (cost_of kind s pool 0)) (value_right s pool basic X t) ∙ ring_q (cost_of kind s pool 0 ∷ []) (by none (var 0)) none refl
        each (suc j) l =
            ap (mul (value_of f (suc j))) (home_cost_at kind s pool j (omega arith) ∙ ap whole (free (get_or (artificial_rows s) j false)) ∙ zero_is_fraction)
            ∙ ring_q (value_of f (suc j) ∷ []) (by (var 0) none) none refl

    -- the model's worlds cost the value of the phase, times the multiple
    side_value : whole (weighted_sum (weighted_worlds f pool) (world_cost kind s)) ≡ mul (whole (pos (weight_multiple f))) (multipliers f (cost_of kind s pool) 0)
    side_value =
        let cost = cost_of kind s pool in
        let worlds : sum_to (length pool) (λ k. mul (value_of f (suc (n + k))) (cost (suc (n + k)))) ≡ sum_to (length pool) (λ k. mul (value_of f (suc (n + k))) (whole (world_cost kind s (get_or pool k [])))) =
        sum_same (length pool) (λ k. mul (value_of f (suc (n + k))) (cost_of kind s pool (suc (n + k)))) (λ k. mul (value_of f (suc (n + k))) (whole (world_cost kind s (get_or pool k []))))
        (λ k l. ap (mul (value_of f (suc (n + k)))) (world_cost_at kind s pool k l)) in
        let sum = sum_to (length pool) (λ k. mul (value_of f (suc (n + k))) (cost_of kind s pool (suc (n + k)))) in
        let all : multipliers f (cost_of kind s pool) 0 ≡ sum =
        sym (phase_value kind)
        ∙ sum_same n (λ i. mul (cost_of kind s pool (basic i)) (X i 0)) (λ i. mul (X i 0) (cost_of kind s pool (basic i))) (λ i l. mul_comm (cost_of kind s pool (basic i)) (X i 0))
        ∙ basic_sum n (width_of s pool) basic (λ i. X i 0) (cost_of kind s pool) t.last
        ∙ sum_split n (length pool) (λ j. mul (value_of f j) (cost_of kind s pool j))
        ∙ ap (λ k. add k sum) homes_free
        ∙ ring_q (sum ∷ []) (plus none (var 0)) (var 0) refl in
        model_sum s pool basic X t (world_cost kind s) ∙ ap (mul (whole (pos (weight_multiple f)))) (sym (all ∙ worlds))

    -- top times the cost of the model's worlds is the first whole multipliers times the weight of the evidence
    pub side_reached : IsFeasible f
        → pos (multiple_of f (cost_of kind s pool)) *ℤ weighted_sum (weighted_worlds f pool) (world_cost kind s) ≡ whole_multiplier f (cost_of kind s pool) 0 *ℤ weight (weighted_worlds f pool) s.query.evidence
    side_reached feasible =
        let big : Rational = whole (pos (multiple_of f (cost_of kind s pool))) in
        let many : Rational = whole (pos (weight_multiple f)) in
        let m = multipliers f (cost_of kind s pool) 0 in
        let left : whole (pos (multiple_of f (cost_of kind s pool)) *ℤ weighted_sum (weighted_worlds f pool) (world_cost kind s)) ≡ mul big (mul many m) =
        sym (whole-mul (pos (multiple_of f (cost_of kind s pool))) (weighted_sum (weighted_worlds f pool) (world_cost kind s))) ∙ ap (mul big) side_value in
        let right : whole (whole_multiplier f (cost_of kind s pool) 0 *ℤ weight (weighted_worlds f pool) s.query.evidence) ≡ mul (mul big m) many =
        sym (whole-mul (whole_multiplier f (cost_of kind s pool) 0) (weight (weighted_worlds f pool) s.query.evidence))
        ∙ (λ i. mul (multiplier_scaled f (cost_of kind s pool) 0 (omega arith) i) (whole (evidence_weight s pool basic X t feasible i))) in
        whole_tells (pos (multiple_of f (cost_of kind s pool)) *ℤ weighted_sum (weighted_worlds f pool) (world_cost kind s)) (whole_multiplier f (cost_of kind s pool) 0 *ℤ weight (weighted_worlds f pool) s.query.evidence)
        (left ∙ ring_q (big ∷ (many ∷ (m ∷ []))) (by (var 0) (by (var 1) (var 2))) (by (by (var 0) (var 2)) (var 1)) refl ∙ sym right)

weighted_neg : (d : List Entry) (G : World → ℤ) → weighted_sum d (λ w. neg_ℤ (G w)) ≡ neg_ℤ (weighted_sum d G)
weighted_neg [] G = refl
weighted_neg (e ∷ d) G =
    let h = weighted_neg d G in
    let k = neg_out e.weight (G e.world) in
    omega (arith, ints, h, k)

-- the model of a side reaches the value head/top
pub reached : (kind : ClaimKind) (s : Setting) (pool : List World) (basic : ℕ → ℕ) (X : ℕ → ℕ → Rational) → kind ≢ Nothing → IsTable s pool basic X → IsFeasible (table_of s pool basic X)
    → (table_dual kind s (table_of s pool basic X) (cost_of kind s pool)).top *ℤ weight (weighted_worlds (table_of s pool basic X) pool) (both_of s)
    ≡ (table_dual kind s (table_of s pool basic X) (cost_of kind s pool)).head *ℤ weight (weighted_worlds (table_of s pool basic X) pool) s.query.evidence
reached Nothing s pool basic X side t feasible = absurd (side refl)
reached Lower s pool basic X side t feasible =
    let d = weighted_worlds (table_of s pool basic X) pool in
    ap (λ z. pos (multiple_of (table_of s pool basic X) (cost_of Lower s pool)) *ℤ z) (sym (weighted_sum-indicator d (both_of s)))
    ∙ side_reached s pool basic X t Lower (λ b. refl) feasible
reached Upper s pool basic X side t feasible =
    let d = weighted_worlds (table_of s pool basic X) pool in
    let big = pos (multiple_of (table_of s pool basic X) (cost_of Upper s pool)) in
    let e = side_reached s pool basic X t Upper (λ b. refl) feasible in
    let turn : weighted_sum d (λ w. neg_ℤ (indicator (both_of s) w)) ≡ neg_ℤ (weight d (both_of s)) = weighted_neg d (indicator (both_of s)) ∙ ap neg_ℤ (weighted_sum-indicator d (both_of s)) in
    let a = ap (λ z. big *ℤ z) turn ∙ neg_out big (weight d (both_of s)) in
    let b = neg-*ℤ (whole_multiplier (table_of s pool basic X) (cost_of Upper s pool) 0) (weight d s.query.evidence) in
    omega (arith, ints, e, a, b)
