-- The weights of worlds' columns.
use Rattle.std.proofs.Common.{◌≡◌, ◌≢◌, ℕ, suc, ◌+◌, ◌-◌, ◌/◌, ◌^◌, ◌<◌, ◌≤◌, unsigned_abs, to_z, of_z, ℤ, pos, ◌*ℤ◌, ltb, Bool, true, false, cond, List, [], ◌∷◌, ◌++◌, map, get_or, refl, sym, ap, ◌∙◌, subst, arith}
use Rattle.std.proofs.lemmas.Int.{ints, to_z-of_z, fits_signed_from_abs}
use Rattle.std.proofs.lemmas.Bool.{lt-ltb}
use Rattle.std.proofs.lemmas.List.{map-append}
use Rattle.std.proofs.Math.Nat.{one-dvd}
use Rattle.std.specs.Int.{◌∣◌, w128, is_positive}
use Rattle.ps_generation.proofs.Weighed.{zero_under}
use Rattle.ps_meaning.specs.Formula.{World}
use Rattle.ps_meaning.specs.Parts.{part_pos}
use Rattle.ps_meaning.specs.Rational.{Rational, zero_q}
use Rattle.ps_meaning.specs.Scaled.{scaled}
use Rattle.ps_meaning.proofs.Field.{zero_over}
use Rattle.ps_meaning.proofs.Multiples.{lcm_to_positive, lcm_to_multiple}
use Rattle.ps_table.specs.declared.col.Col.{Col}
use Rattle.ps_table.specs.declared.col.Col.TheVariants as col
use Rattle.ps_table.specs.Tableau.{Tableau, IsTableau, IsInside, number_in, rows_of, basic_at, entry_at}
use Rattle.ps_table.specs.Places.{weight_under}
use Rattle.ps_bland.specs.Rules.{simplex_of}
use Rattle.ps_answer.specs.declared.answer.Weighted.{Weighted}
use Rattle.ps_generation.specs.declared.weights.Weights.{Weights}
use Rattle.ps_generation.specs.Multiples.{weight_multiple_of, weight_of, AreWeights}
use Rattle.ps_runs.specs.Certificates.{value_of, is_above, entry_for, entries_to}
use Rattle.ps_runs.proofs.BasicSolution.{value_in_row, value_in_none}
use Rattle.ps_runs.proofs.Weighing.{positive_times}
use Rattle.ps_generation.specs.Models.{AreApart, IsBasicIn, column_value, column_weight, weighed}
use Rattle.ps_claims.specs.Certificates.{entry_of}

-- a basic column has the value of its row
value_here : (t : Tableau) (i : ℕ) → AreApart t → i < rows_of t → value_of (simplex_of t) (basic_at t i) ≡ entry_at t i 0
value_here t i apart h = value_in_row (simplex_of t) i h (λ k l ne e. ne (apart.same k i l h e))

-- another one has the value 0
value_apart : (t : Tableau) (j : ℕ) → ((i : ℕ) → i < rows_of t → basic_at t i ≢ j) → value_of (simplex_of t) j ≡ zero_q
value_apart t j h = value_in_none (simplex_of t) j h

number_other : (n worlds number : ℕ) (c : Col) → IsInside n worlds c → 0 < number → ¬ (c ≡ col.World number) → number_in n c ≢ n + number
number_other n worlds number (col.Home i) inside h ne = λ e. absurd (omega (arith, e, inside, h))
number_other n worlds number (col.World k) inside h ne = λ e. let same : k ≡ number = omega (arith, e) in ne (ap col.World same)

above_zero_inside : (n worlds number : ℕ) (c : Col) → IsInside n worlds c → c ≡ col.World number → 0 < number
above_zero_inside n worlds number c inside e = (subst (IsInside n worlds) e inside).0

-- ---- weights
scaled_zero : (big : ℕ) → pos 0 ≡ scaled big zero_q
scaled_zero big =
    let z : zero_q.over ≡ pos 0 = zero_over zero_q refl in
    let k = big / zero_q.under in
    let e : pos 0 *ℤ pos k ≡ pos 0 = omega (arith, ints) in
    sym (ap (λ y. y *ℤ pos k) z ∙ e)

pub weight_here : (t : Tableau) (w : Weights) (number row : ℕ) (z : ℤ) → IsTableau t → AreApart t → AreWeights t w → row < rows_of t → IsBasicIn t number row
    → z ≡ get_or w.rows row (pos 0) → z ≡ column_weight t number
weight_here t w number row z is apart weights h basic e =
    let n = rows_of t in
    let big = weight_multiple_of t in
    let place : basic_at t row ≡ n + number = ap (number_in n) basic in
    let value : entry_at t row 0 ≡ column_value t number = sym (value_here t row apart h) ∙ ap (value_of (simplex_of t)) place in
    let some : 0 < number = above_zero_inside n t.worlds number (get_or t.basic row (col.Home 0)) (is.inside row h) basic in
    let world : n < basic_at t row = omega (arith, place, some) in
    let weighs : weight_of t row ≡ scaled big (entry_at t row 0) = ap (λ b. cond b (scaled big (entry_at t row 0)) (pos 0)) (lt-ltb n (basic_at t row) world) in
    e ∙ weights.rows row h ∙ weighs ∙ ap (scaled big) value

pub weight_none : (t : Tableau) (number : ℕ) → IsTableau t → 0 < number → ((i : ℕ) → i < rows_of t → ¬ IsBasicIn t number i) → pos 0 ≡ column_weight t number
weight_none t number is some h =
    let none : column_value t number ≡ zero_q =
    value_apart t (rows_of t + number) (λ i l. number_other (rows_of t) t.worlds number (get_or t.basic i (col.Home 0)) (is.inside i l) some (h i l)) in
    scaled_zero (weight_multiple_of t) ∙ ap (scaled (weight_multiple_of t)) (sym none)

-- ---- denominators
under_above : (t : Tableau) (i : ℕ) → 0 < weight_under (rows_of t) (basic_at t) (entry_at t) i
under_above t i = cases (ltb (rows_of t) (basic_at t i))
  where
    cases : (b : Bool) → 0 < cond b (entry_at t i 0).under 1
    cases true = (entry_at t i 0).lowest.positive
    cases false = omega arith

multiple_above : (t : Tableau) → 0 < weight_multiple_of t
multiple_above t = lcm_to_positive (rows_of t) (weight_under (rows_of t) (basic_at t) (entry_at t)) (λ i _. under_above t i)

pub divides_here : (t : Tableau) (number row : ℕ) → IsTableau t → AreApart t → row < rows_of t → IsBasicIn t number row
    → (column_value t number).under ∣ weight_multiple_of t
divides_here t number row is apart h basic =
    let n = rows_of t in
    let place : basic_at t row ≡ n + number = ap (number_in n) basic in
    let value : entry_at t row 0 ≡ column_value t number = sym (value_here t row apart h) ∙ ap (value_of (simplex_of t)) place in
    let some : 0 < number = above_zero_inside n t.worlds number (get_or t.basic row (col.Home 0)) (is.inside row h) basic in
    let world : n < basic_at t row = omega (arith, place, some) in
    let under : weight_under n (basic_at t) (entry_at t) row ≡ (entry_at t row 0).under = ap (λ b. cond b (entry_at t row 0).under 1) (lt-ltb n (basic_at t row) world) in
    let same : weight_under n (basic_at t) (entry_at t) row ≡ (column_value t number).under = under ∙ ap (λ (x : Rational). x.under) value in
    subst (λ (k : ℕ). k ∣ weight_multiple_of t) same (lcm_to_multiple n (weight_under n (basic_at t) (entry_at t)) (λ i _. under_above t i) row h)

pub divides_none : (t : Tableau) (number : ℕ) → IsTableau t → 0 < number → ((i : ℕ) → i < rows_of t → ¬ IsBasicIn t number i)
    → (column_value t number).under ∣ weight_multiple_of t
divides_none t number is some h =
    let none : column_value t number ≡ zero_q =
    value_apart t (rows_of t + number) (λ i l. number_other (rows_of t) t.worlds number (get_or t.basic i (col.Home 0)) (is.inside i l) some (h i l)) in
    let one : (column_value t number).under ≡ 1 = zero_under (column_value t number) (zero_over (column_value t number) none) in
    subst (λ (k : ℕ). k ∣ weight_multiple_of t) (sym one) (one-dvd (weight_multiple_of t))

-- ---- entries
weighed_entries : (z : ℤ) (w : World) → map entry_of (weighed z w) ≡ cond (is_positive z) (record { weight = z; world = w } ∷ []) []
weighed_entries z w = cases (is_positive z)
  where
    cases : (b : Bool) → map entry_of (cond b (record { weight = z; world = w } ∷ []) []) ≡ cond b (record { weight = z; world = w } ∷ []) []
    cases true = refl
    cases false = refl

entry_is : (big : ℕ) (x : Rational) (z : ℤ) (w : World) → 0 < big → x.under ∣ big → z ≡ scaled big x → map entry_of (weighed z w) ≡ entry_for big x w
entry_is big x z w hb d e =
    let sign : is_positive z ≡ is_above x = ap is_positive e ∙ positive_times x.over (big / x.under) (part_pos big x.under hb d) in
    weighed_entries z w ∙ (λ k. cond (sign k) (record { weight = e k; world = w } ∷ []) [])

pub next_entry : (t : Tableau) (pool : List World) (worlds more : List Weighted) (place : ℕ) (z : ℤ) (w : World)
    → map entry_of worlds ≡ entries_to (simplex_of t) (weight_multiple_of t) pool place → w ≡ get_or pool (place + 1 - 1) []
    → z ≡ column_weight t (place + 1) → (column_value t (place + 1)).under ∣ weight_multiple_of t → more ≡ worlds ++ weighed z w
    → map entry_of more ≡ entries_to (simplex_of t) (weight_multiple_of t) pool (place + 1)
next_entry t pool worlds more place z w so_far ew ez d grown =
    let n = rows_of t in
    let big = weight_multiple_of t in
    let next : place + 1 ≡ suc place = omega arith in
    let back : place + 1 - 1 ≡ place = omega arith in
    let column : n + (place + 1) ≡ suc (n + place) = omega arith in
    let world : w ≡ get_or pool place [] = ew ∙ ap (λ k. get_or pool k []) back in
    let here : map entry_of (weighed z w) ≡ entry_for big (value_of (simplex_of t) (suc (n + place))) (get_or pool place []) =
    entry_is big (column_value t (place + 1)) z w (multiple_above t) d ez ∙ (λ k. entry_for big (value_of (simplex_of t) (column k)) (world k)) in
    ap (map entry_of) grown ∙ map-append entry_of worlds (weighed z w) ∙ (λ k. so_far k ++ here k)
    ∙ ap (entries_to (simplex_of t) big pool) (sym next)

-- ---- 128-bit numbers
pub read_back : (z : ℤ) → unsigned_abs z ≤ 2 ^ 90 → to_z w128 (of_z w128 z) ≡ z
read_back z small = to_z-of_z w128 z (fits_signed_from_abs w128 z (omega (arith, small)))
