-- Where all that is printed is small, no place was refused.
use Rattle.std.proofs.Common.{◌≡◌, ℕ, zero, suc, ◌+◌, ◌/◌, ◌<◌, ◌≤◌, ℤ, pos, negsuc, ◌+ℤ◌, ◌*ℤ◌, ◌≤ℤ◌, unsigned_abs, List, sym, subst, Bool, true, false, if◌then◌else◌, ltb, arith, inl, inr}
use Rattle.std.proofs.lemmas.Int.{ints}
use Rattle.std.proofs.lemmas.Bool.{cases_eq}
use Rattle.std.proofs.lemmas.Nat.Gcd.{le_of_dvd}
use Rattle.std.specs.Int.{◌∣◌}
use Rattle.ps_frac.specs.declared.wide.Op.TheVariants.{Add, Mul, Lcm}
use Rattle.ps_meaning.specs.Gcd.{lcm, lcm_to, ArePositive}
use Rattle.ps_meaning.specs.Rational.{Rational}
use Rattle.ps_meaning.specs.Order.{IsNonneg}
use Rattle.ps_meaning.specs.Scaled.{scaled}
use Rattle.ps_meaning.specs.Sums.{int_sum_to}
use Rattle.ps_meaning.proofs.Multiples.{lcm_is, lcm_to_multiple, lcm_to_positive}
use Rattle.ps_table.specs.declared.costs.Costs.{Costs}
use Rattle.ps_table.specs.Tableau.{Tableau, rows_of, basic_at, entry_at}
use Rattle.ps_table.specs.Pricing.{multiplier_of}
use Rattle.ps_meaning.specs.declared.limits.TheConstants.{PRINTED_LIMIT}
use Rattle.ps_table.specs.Places.{Operation, IsWide, IsNarrow, IsTooLargeToPrint, HomePlaces, at_whole, at_scaled, at_weight, at_weighed, at_total, weight_under}
use Rattle.ps_table.proofs.Printed.{printed_exact}
use Rattle.ps_table.proofs.Narrow.{all_more}
use Rattle.ps_bland.specs.Ready.{HasNoNegativeValue}
use Rattle.ps_generation.specs.declared.scaled.Scaled.{Scaled}
use Rattle.ps_generation.specs.Multiples.{multiple_of, DualPlaces, of_home, of_multiplier, AreScaled, ModelPlaces, weight_of, weight_multiple_of, total_of}
use Rattle.ps_generation.specs.Rows.{AreHomesNarrow, IsPrintedMultiple, AreWeightRows, total_to_row}
use Rattle.ps_generation.proofs.Weighed.{under_above, weighed_under, weighed_weight, weighed_divides}

-- ---- numbers that only grow
lcm_step : (n : ℕ) (d : ℕ → ℕ) → ArePositive (suc n) d → lcm_to n d ≤ lcm_to (suc n) d
lcm_step n d h = le_of_dvd (lcm_to_positive (suc n) d h) (lcm_is (lcm_to n d) (d n) (h n (omega arith))).left

lcm_up : (n i : ℕ) (d : ℕ → ℕ) → ArePositive n d → i ≤ n → lcm_to i d ≤ lcm_to n d
lcm_up zero i d h hi = let e : i ≡ zero = omega (arith, hi) in subst (λ k. lcm_to k d ≤ 1) (sym e) (omega arith)
lcm_up (suc n) i d h hi = elim (cases_eq i (suc n)) [
  | inl e ↦ subst (λ k. lcm_to k d ≤ lcm_to (suc n) d) (sym e) (omega arith)
  | inr ne ↦
      let before : lcm_to i d ≤ lcm_to n d = lcm_up n i d (λ k hk. h k (omega (arith, hk))) (omega (arith, hi, ne)) in
      let step = lcm_step n d h in
      omega (arith, before, step)
]

-- a multiple of some of the numbers is no greater than that of all
lcm_within : (n i : ℕ) (d : ℕ → ℕ) → ArePositive n d → i < n → lcm_to n d ≤ PRINTED_LIMIT → ¬ (PRINTED_LIMIT < lcm (lcm_to i d) (d i))
lcm_within n i d h hi small = λ past.
    let up : lcm (lcm_to i d) (d i) ≤ lcm_to n d = lcm_up n (suc i) d h (omega (arith, hi)) in
    omega (arith, up, small, past)

sum_low : (n : ℕ) (f : ℕ → ℤ) → ((k : ℕ) → k < n → pos 0 ≤ℤ f k) → pos 0 ≤ℤ int_sum_to n f
sum_low zero f h = omega (arith, ints)
sum_low (suc n) f h =
    let before = sum_low n f (λ k hk. h k (omega (arith, hk))) in
    let last = h n (omega arith) in
    omega (arith, ints, before, last)

sum_up : (n i : ℕ) (f : ℕ → ℤ) → ((k : ℕ) → k < n → pos 0 ≤ℤ f k) → i ≤ n → int_sum_to i f ≤ℤ int_sum_to n f
sum_up zero i f h hi = let e : i ≡ zero = omega (arith, hi) in subst (λ k. int_sum_to k f ≤ℤ pos 0) (sym e) (omega (arith, ints))
sum_up (suc n) i f h hi = elim (cases_eq i (suc n)) [
  | inl e ↦ subst (λ k. int_sum_to k f ≤ℤ int_sum_to (suc n) f) (sym e) (omega (arith, ints))
  | inr ne ↦
      let before : int_sum_to i f ≤ℤ int_sum_to n f = sum_up n i f (λ k hk. h k (omega (arith, hk))) (omega (arith, hi, ne)) in
      let last = h n (omega arith) in
      omega (arith, ints, before, last)
]

-- a sum of some numbers that are not below 0 is no greater than that of all
sum_within : (n i : ℕ) (f : ℕ → ℤ) → ((k : ℕ) → k < n → pos 0 ≤ℤ f k) → i < n → unsigned_abs (int_sum_to n f) ≤ PRINTED_LIMIT
    → ¬ IsTooLargeToPrint (int_sum_to i f +ℤ f i)
sum_within n i f h hi small = λ past.
    let low : pos 0 ≤ℤ (int_sum_to i f +ℤ f i) = sum_low (suc i) f (λ k hk. h k (omega (arith, hk, hi))) in
    let up : (int_sum_to i f +ℤ f i) ≤ℤ int_sum_to n f = sum_up n (suc i) f h (omega (arith, hi)) in
    omega (arith, ints, low, up, small, past)

scaled_low : (big : ℕ) (x : Rational) → IsNonneg x → pos 0 ≤ℤ scaled big x
scaled_low big x h = of_times (big / x.under) x.over h
  where
    of_times : (k : ℕ) (z : ℤ) → pos 0 ≤ℤ z → pos 0 ≤ℤ (z *ℤ pos k)
    of_times k (pos a) h = omega (arith, ints)
    of_times k (negsuc a) h = absurd (omega (arith, ints, h))

-- ---- multipliers
-- what is carried of one more home
pub homes_more : (t : Tableau) (costs : Costs) (m : ℕ) → AreHomesNarrow t costs m → IsNarrow (HomePlaces t costs m) → AreHomesNarrow t costs (m + 1)
homes_more t costs m h e = all_more (λ k. IsNarrow (HomePlaces t costs k)) m h e

dual_nowhere : (t : Tableau) (costs : Costs) (s : Scaled) → AreHomesNarrow t costs (rows_of t) → AreScaled t costs s
    → (o : Operation) → DualPlaces t costs o → ¬ IsWide o
dual_nowhere t costs s homes h _ (of_home m o hm p) = (homes m hm).nowhere o p
dual_nowhere t costs s homes h _ (of_multiplier _ (at_whole i hi)) = λ wide.
    let d : ℕ → ℕ = λ m. (multiplier_of t costs m).under in
    lcm_within (rows_of t) i d (λ k _. (multiplier_of t costs k).lowest.positive) hi h.small ((printed_exact.multiple i (lcm_to i d) (d i) Lcm).0 wide)
dual_nowhere t costs s homes h _ (of_multiplier _ (at_scaled i hi)) = λ wide.
    let d : ℕ → ℕ = λ m. (multiplier_of t costs m).under in
    let divides : d i ∣ multiple_of t costs = lcm_to_multiple (rows_of t) d (λ k _. (multiplier_of t costs k).lowest.positive) i hi in
    let past = (printed_exact.multiplier i (multiple_of t costs) Mul (multiplier_of t costs i) divides).0 wide in
    let small : unsigned_abs (scaled (multiple_of t costs) (multiplier_of t costs i)) ≤ PRINTED_LIMIT =
    subst (λ z. unsigned_abs z ≤ PRINTED_LIMIT) (h.numbers i hi) (h.all_small i hi) in
    omega (arith, past, small)

-- where each home is narrow and all multiples are small, all places are narrow
pub dual_narrow : (t : Tableau) (costs : Costs) (s : Scaled) → AreHomesNarrow t costs (rows_of t) → AreScaled t costs s → IsNarrow (DualPlaces t costs)
dual_narrow t costs s homes h = record { nowhere = dual_nowhere t costs s homes h }

-- ---- weights
weight_low : (t : Tableau) → HasNoNegativeValue t → (k : ℕ) → k < rows_of t → pos 0 ≤ℤ weight_of t k
weight_low t values k hk = cases (ltb (rows_of t) (basic_at t k))
  where
    cases : (b : Bool) → pos 0 ≤ℤ (if b then scaled (weight_multiple_of t) (entry_at t k 0) else pos 0)
    cases true = scaled_low (weight_multiple_of t) (entry_at t k 0) (values k hk)
    cases false = omega (arith, ints)

model_nowhere : (t : Tableau) (m : ℕ) (rows : List ℤ) → HasNoNegativeValue t → IsPrintedMultiple (weight_multiple_of t) m → AreWeightRows t (rows_of t) rows
    → unsigned_abs (total_of t) ≤ PRINTED_LIMIT → (o : Operation) → ModelPlaces t o → ¬ IsWide o
model_nowhere t m rows values multiple h small _ (at_weight i hi weighed) = λ wide.
    let n = rows_of t in
    let d : ℕ → ℕ = weight_under n (basic_at t) (entry_at t) in
    let past : PRINTED_LIMIT < lcm (lcm_to i d) (entry_at t i 0).under = (printed_exact.weight_multiple i (lcm_to i d) (entry_at t i 0).under Lcm).0 wide in
    let here : PRINTED_LIMIT < lcm (lcm_to i d) (d i) = subst (λ (k : ℕ). PRINTED_LIMIT < lcm (lcm_to i d) k) (sym (weighed_under n (basic_at t) (entry_at t) i weighed)) past in
    let within : lcm_to n d ≤ PRINTED_LIMIT = subst (λ (k : ℕ). k ≤ PRINTED_LIMIT) multiple.value multiple.small in
    lcm_within n i d (λ k _. under_above n (basic_at t) (entry_at t) k) hi within here
model_nowhere t m rows values multiple h small _ (at_weighed i hi weighed) = λ wide.
    let past = (printed_exact.weight i (weight_multiple_of t) Mul (entry_at t i 0) (weighed_divides t i hi weighed)).0 wide in
    let within : unsigned_abs (weight_of t i) ≤ PRINTED_LIMIT = subst (λ z. unsigned_abs z ≤ PRINTED_LIMIT) (h.each i hi) (h.small i hi) in
    let same = weighed_weight (rows_of t) (basic_at t) (entry_at t) i weighed in
    let here : unsigned_abs (scaled (weight_multiple_of t) (entry_at t i 0)) ≤ PRINTED_LIMIT = subst (λ z. unsigned_abs z ≤ PRINTED_LIMIT) same within in
    omega (arith, past, here)
model_nowhere t m rows values multiple h small _ (at_total i hi weighed) = λ wide.
    sum_within (rows_of t) i (weight_of t) (weight_low t values) hi small ((printed_exact.total i Add (total_to_row t i) (weight_of t i)).0 wide)

-- where the multiple, each weight and their sum are small, all places are narrow
pub model_narrow : (t : Tableau) (m : ℕ) (rows : List ℤ) (total : ℤ) → HasNoNegativeValue t → IsPrintedMultiple (weight_multiple_of t) m → AreWeightRows t (rows_of t) rows
    → total ≡ total_of t → unsigned_abs total ≤ PRINTED_LIMIT → IsNarrow (ModelPlaces t)
model_narrow t m rows total values multiple h is small =
    record { nowhere = model_nowhere t m rows values multiple h (subst (λ z. unsigned_abs z ≤ PRINTED_LIMIT) is small) }
