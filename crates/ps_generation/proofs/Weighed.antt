-- The rows whose basic column is a world of value above 0, and the others.
use Rattle.std.proofs.Common.{◌≡◌, ℕ, zero, suc, ◌/◌, ◌*◌, ◌<◌, ◌≤◌, ℤ, pos, negsuc, ◌+ℤ◌, ◌*ℤ◌, ◌<ℤ◌, ◌≤ℤ◌, Bool, true, false, if◌then◌else◌, ltb, refl, sym, ap, ◌∙◌, subst, arith}
use Rattle.std.proofs.lemmas.Int.{ints}
use Rattle.std.proofs.lemmas.Bool.{lt-ltb, ltb-true}
use Rattle.std.proofs.Math.Nat.{eq-one_of_dvd-one}
use Rattle.std.specs.Int.{◌∣◌}
use Rattle.ps_frac.specs.declared.wide.Op.TheVariants.{Add, Mul, Lcm}
use Rattle.ps_meaning.specs.Coprime.{gcd_is}
use Rattle.ps_meaning.specs.Gcd.{gcd, lcm}
use Rattle.ps_meaning.specs.Rational.{Rational, whole}
use Rattle.ps_meaning.specs.Order.{IsNonneg}
use Rattle.ps_meaning.specs.Scaled.{scaled}
use Rattle.ps_meaning.proofs.Field.{over_is_zero, zero_is_fraction}
use Rattle.ps_meaning.proofs.Multiples.{lcm_to_multiple}
use Rattle.ps_table.specs.declared.place.Place.TheVariants.{Weight, Weighed, Total}
use Rattle.ps_table.specs.declared.place.WideAt.{WideAt}
use Rattle.ps_table.specs.Tableau.{Tableau, rows_of, basic_at, entry_at}
use Rattle.ps_meaning.specs.declared.limits.TheConstants.{PRINTED_LIMIT}
use Rattle.ps_table.specs.Places.{IsWideAt, IsTooLargeToPrint, IsWeighed, weight_under, weight_at, weight_multiple_to, at_weight, at_weighed, at_total}
use Rattle.ps_table.specs.Grids.{Names}
use Rattle.ps_table.proofs.Printed.{printed_exact, whole_under}
use Rattle.ps_generation.specs.Multiples.{weight_of, weight_multiple_of, ModelPlaces}
use Rattle.ps_bland.specs.Ready.{HasNoNegativeValue}
use Rattle.ps_generation.specs.Rows.{IsWeighedIn, multiple_to_row, total_to_row, IsPrintedMultiple}

-- a number that is 0 has denominator 1
pub zero_under : (x : Rational) → x.over ≡ pos 0 → x.under ≡ 1
zero_under x e =
    let same : x ≡ whole (pos 0) = over_is_zero x e ∙ sym zero_is_fraction in
    (λ i. (same i).under) ∙ whole_under (pos 0)

lcm-one : (a : ℕ) → lcm a 1 ≡ a
lcm-one a =
    let e : gcd a 1 ≡ 1 = eq-one_of_dvd-one (gcd_is a 1).1 in
    let one : (a / 1) * 1 ≡ a = omega arith in
    ap (λ g. (a / g) * 1) e ∙ one

module _ (n : ℕ) (basic : ℕ → ℕ) (X : ℕ → ℕ → Rational) (i : ℕ) where
  -- a row without weight
  unweighed_zero : IsNonneg (X i 0) → ¬ IsWeighed n basic X i → n < basic i → (X i 0).over ≡ pos 0
  unweighed_zero h not world = zero_of (X i 0).over h (λ a. not (record { world = world; above = a }))
    where
      zero_of : (z : ℤ) → pos 0 ≤ℤ z → ¬ (pos 0 <ℤ z) → z ≡ pos 0
      zero_of (pos zero) h not = refl
      zero_of (pos (suc k)) h not = absurd (not (omega (arith, ints)))
      zero_of (negsuc k) h not = absurd (omega (arith, ints, h))

  pub unweighed_under : IsNonneg (X i 0) → ¬ IsWeighed n basic X i → weight_under n basic X i ≡ 1
  unweighed_under h not = cases (ltb n (basic i)) refl
    where
      cases : (b : Bool) → ltb n (basic i) ≡ b → (if b then (X i 0).under else 1) ≡ 1
      cases true e = zero_under (X i 0) (unweighed_zero h not (ltb-true n (basic i) e))
      cases false e = refl

  pub unweighed_weight : IsNonneg (X i 0) → ¬ IsWeighed n basic X i → weight_at n basic X i ≡ pos 0
  unweighed_weight h not = cases (ltb n (basic i)) refl
    where
      cases : (b : Bool) → ltb n (basic i) ≡ b → (if b then scaled (weight_multiple_to n basic X n) (X i 0) else pos 0) ≡ pos 0
      cases true e =
          let zero_over : (X i 0).over ≡ pos 0 = unweighed_zero h not (ltb-true n (basic i) e) in
          let k = weight_multiple_to n basic X n / (X i 0).under in
          let none : pos 0 *ℤ pos k ≡ pos 0 = omega (arith, ints) in
          ap (λ z. z *ℤ pos k) zero_over ∙ none
      cases false e = refl

  -- a row with a weight
  pub weighed_under : IsWeighed n basic X i → weight_under n basic X i ≡ (X i 0).under
  weighed_under w = ap (λ b. if b then (X i 0).under else 1) (lt-ltb n (basic i) w.world)

  pub weighed_weight : IsWeighed n basic X i → weight_at n basic X i ≡ scaled (weight_multiple_to n basic X n) (X i 0)
  weighed_weight w = ap (λ b. if b then scaled (weight_multiple_to n basic X n) (X i 0) else pos 0) (lt-ltb n (basic i) w.world)

pub under_above : (n : ℕ) (basic : ℕ → ℕ) (X : ℕ → ℕ → Rational) (i : ℕ) → 0 < weight_under n basic X i
under_above n basic X i = cases (ltb n (basic i))
  where
    cases : (b : Bool) → 0 < (if b then (X i 0).under else 1)
    cases true = (X i 0).lowest.positive
    cases false = omega arith

pub weighed_divides : (t : Tableau) (i : ℕ) → i < rows_of t → IsWeighedIn t i → (entry_at t i 0).under ∣ weight_multiple_of t
weighed_divides t i h w =
    let n = rows_of t in
    subst (λ (k : ℕ). k ∣ weight_multiple_of t) (weighed_under n (basic_at t) (entry_at t) i w)
    (lcm_to_multiple n (weight_under n (basic_at t) (entry_at t)) (λ k _. under_above n (basic_at t) (entry_at t) k) i h)

-- ---- the multiple goes on
unweighed_multiple : (t : Tableau) (i : ℕ) → IsNonneg (entry_at t i 0) → ¬ IsWeighedIn t i → multiple_to_row t (suc i) ≡ multiple_to_row t i
unweighed_multiple t i h not =
    ap (λ k. lcm (multiple_to_row t i) k) (unweighed_under (rows_of t) (basic_at t) (entry_at t) i h not) ∙ lcm-one (multiple_to_row t i)

weighed_multiple : (t : Tableau) (i : ℕ) → IsWeighedIn t i → multiple_to_row t (suc i) ≡ lcm (multiple_to_row t i) (entry_at t i 0).under
weighed_multiple t i w = ap (λ k. lcm (multiple_to_row t i) k) (weighed_under (rows_of t) (basic_at t) (entry_at t) i w)

pub passed_multiple : (t : Tableau) (i m : ℕ) → i < rows_of t → HasNoNegativeValue t → ¬ IsWeighedIn t i → IsPrintedMultiple (multiple_to_row t i) m
    → IsPrintedMultiple (multiple_to_row t (suc i)) m
passed_multiple t i m h values not p =
    record { value = p.value ∙ sym (unweighed_multiple t i (values i h) not); positive = p.positive; small = p.small }

pub next_multiple : (t : Tableau) (i m r : ℕ) (x : Rational) → IsWeighedIn t i → IsPrintedMultiple (multiple_to_row t i) m → x ≡ entry_at t i 0
    → r ≡ lcm m x.under → 0 < r → r ≤ PRINTED_LIMIT → IsPrintedMultiple (multiple_to_row t (suc i)) r
next_multiple t i m r x w p ex e positive small = record {
  value = e ∙ (λ k. lcm (p.value k) (ex k).under) ∙ sym (weighed_multiple t i w);
  positive = positive;
  small = small;
}

-- ---- weights
pub no_weight : (t : Tableau) (i : ℕ) → i < rows_of t → HasNoNegativeValue t → ¬ IsWeighedIn t i → pos 0 ≡ weight_of t i
no_weight t i h values not = sym (unweighed_weight (rows_of t) (basic_at t) (entry_at t) i (values i h) not)

pub weight_is : (t : Tableau) (i m : ℕ) (z : ℤ) (x : Rational) → IsWeighedIn t i → IsPrintedMultiple (weight_multiple_of t) m → x ≡ entry_at t i 0 → z ≡ scaled m x
    → z ≡ weight_of t i
weight_is t i m z x w p ex e = e ∙ (λ k. scaled (p.value k) (ex k)) ∙ sym (weighed_weight (rows_of t) (basic_at t) (entry_at t) i w)

pub passed_total : (t : Tableau) (i : ℕ) (total : ℤ) → i < rows_of t → HasNoNegativeValue t → ¬ IsWeighedIn t i → total ≡ total_to_row t i → total ≡ total_to_row t (suc i)
passed_total t i total h values not e =
    let none : weight_of t i ≡ pos 0 = sym (no_weight t i h values not) in
    omega (arith, ints, e, none)

-- ---- refusals
pub wide_weight : (t : Tableau) (i m : ℕ) (x : Rational) (w : WideAt) → i < rows_of t → IsWeighedIn t i → IsPrintedMultiple (multiple_to_row t i) m → x ≡ entry_at t i 0
    → Names (Weight i) Lcm (whole (pos m)) (whole (pos x.under)) w → PRINTED_LIMIT < lcm m x.under → IsWideAt (ModelPlaces t) w
wide_weight t i m x w h weighed p ex names wide =
    let P : ℕ → Rational → Type 0 = λ k y. IsWideAt (ModelPlaces t) (record { place = Weight i; op = Lcm; left = whole (pos k); right = whole (pos y.under) }) in
    let a = multiple_to_row t i in
    let b = entry_at t i 0 in
    let past : PRINTED_LIMIT < lcm a b.under = subst (λ (k : ℕ). PRINTED_LIMIT < lcm k b.under) p.value (subst (λ (y : Rational). PRINTED_LIMIT < lcm m y.under) ex wide) in
    let here : P a b = record { at = at_weight i h weighed; wide = (printed_exact.weight_multiple i a b.under Lcm).1 past } in
    subst (IsWideAt (ModelPlaces t)) (sym names) (subst (λ (k : ℕ). P k x) (sym p.value) (subst (P a) (sym ex) here))

pub wide_weighed : (t : Tableau) (i m : ℕ) (x : Rational) (w : WideAt) → i < rows_of t → IsWeighedIn t i → IsPrintedMultiple (weight_multiple_of t) m → x ≡ entry_at t i 0
    → Names (Weighed i) Mul x (whole (pos m)) w → IsTooLargeToPrint (scaled m x) → IsWideAt (ModelPlaces t) w
wide_weighed t i m x w h weighed p ex names wide =
    let P : ℕ → Rational → Type 0 = λ k y. IsWideAt (ModelPlaces t) (record { place = Weighed i; op = Mul; left = y; right = whole (pos k) }) in
    let a = weight_multiple_of t in
    let b = entry_at t i 0 in
    let past : IsTooLargeToPrint (scaled a b) = subst (λ (k : ℕ). IsTooLargeToPrint (scaled k b)) p.value (subst (λ (y : Rational). IsTooLargeToPrint (scaled m y)) ex wide) in
    let here : P a b = record { at = at_weighed i h weighed; wide = (printed_exact.weight i a Mul b (weighed_divides t i h weighed)).1 past } in
    subst (IsWideAt (ModelPlaces t)) (sym names) (subst (λ (k : ℕ). P k x) (sym p.value) (subst (P a) (sym ex) here))

pub wide_total : (t : Tableau) (i : ℕ) (total weight : ℤ) (w : WideAt) → i < rows_of t → IsWeighedIn t i → total ≡ total_to_row t i → weight ≡ weight_of t i
    → Names (Total i) Add (whole total) (whole weight) w → IsTooLargeToPrint (total +ℤ weight) → IsWideAt (ModelPlaces t) w
wide_total t i total weight w h weighed et ew names wide =
    let P : ℤ → ℤ → Type 0 = λ y z. IsWideAt (ModelPlaces t) (record { place = Total i; op = Add; left = whole y; right = whole z }) in
    let a = total_to_row t i in
    let b = weight_of t i in
    let past : IsTooLargeToPrint (a +ℤ b) = subst (λ (y : ℤ). IsTooLargeToPrint (y +ℤ b)) et (subst (λ (z : ℤ). IsTooLargeToPrint (total +ℤ z)) ew wide) in
    let here : P a b = record { at = at_total i h weighed; wide = (printed_exact.total i Add a b).1 past } in
    subst (IsWideAt (ModelPlaces t)) (sym names) (subst (λ (y : ℤ). P y weight) (sym et) (subst (P a) (sym ew) here))
