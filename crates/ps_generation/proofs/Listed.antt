-- Whole multiples of the numbers of a list, and of a table's multipliers.
use Rattle.std.proofs.Common.{◌≡◌, ℕ, zero, suc, ◌+◌, ◌<◌, ◌≤◌, ℤ, pos, unsigned_abs, List, [], ◌∷◌, ◌++◌, get_or, length, refl, sym, ap, ◌∙◌, subst, arith, inl, inr}
use Rattle.std.proofs.Math.ListN.{get_or-append}
use Rattle.std.proofs.Math.Seq.{get_or-append_seam}
use Rattle.std.proofs.lemmas.List.{length-append}
use Rattle.std.proofs.lemmas.Bool.{cases_eq}
use Rattle.std.specs.Int.{◌∣◌}
use Rattle.ps_frac.specs.declared.wide.Op.TheVariants.{Mul, Lcm}
use Rattle.ps_meaning.specs.Gcd.{lcm, lcm_to}
use Rattle.ps_meaning.specs.Rational.{Rational, whole, zero_q}
use Rattle.ps_meaning.specs.Scaled.{scaled}
use Rattle.ps_meaning.proofs.Multiples.{lcm_to_multiple}
use Rattle.ps_table.specs.declared.place.Place.TheVariants.{Whole, Scaled}
use Rattle.ps_table.specs.declared.place.WideAt.{WideAt}
use Rattle.ps_table.specs.declared.error.TableError.{TableError}
use Rattle.ps_table.specs.declared.error.TableError.TheVariants as refused
use Rattle.ps_table.specs.declared.costs.Costs.{Costs}
use Rattle.ps_table.specs.declared.limits.TheConstants.{MOST_ROWS}
use Rattle.ps_meaning.specs.declared.limits.TheConstants.{PRINTED_LIMIT}
use Rattle.ps_table.specs.Tableau.{Tableau, IsTableau, rows_of}
use Rattle.ps_table.specs.Pricing.{multiplier_of}
use Rattle.ps_table.specs.Places.{Operation, IsWideAt, IsRefusedAt, IsTooLargeToPrint, HomePlaces, at_whole, at_scaled}
use Rattle.ps_table.specs.Grids.{Names}
use Rattle.ps_table.proofs.Operations.{operation, operation_of}
use Rattle.ps_table.proofs.Printed.{printed_exact}
use Rattle.ps_generation.specs.Multiples.{multiple_of, DualPlaces, of_multiplier, of_home, AreScaled}
use Rattle.ps_generation.specs.Rows.{AreMultipliers, under_at, multiple_before, ListPlaces, at_multiple, at_product, AreProducts}

add_one : (n : ℕ) → n + 1 ≡ suc n
add_one n = omega arith

-- ---- lists
-- least common multiples of the same numbers
pub lcm_same : (n : ℕ) (d e : ℕ → ℕ) → ((i : ℕ) → i < n → d i ≡ e i) → lcm_to n d ≡ lcm_to n e
lcm_same zero d e h = refl
lcm_same (suc n) d e h =
    let before : lcm_to n d ≡ lcm_to n e = lcm_same n d e (λ i hi. h i (omega (arith, hi))) in
    let here : d n ≡ e n = h n (omega arith) in
    λ k. lcm (before k) (here k)

-- the multiple of all numbers is one of each
divides : (xs : List Rational) (i : ℕ) → i < length xs → under_at xs i ∣ multiple_before xs (length xs)
divides xs i h = lcm_to_multiple (length xs) (under_at xs) (λ k hk. (get_or xs k zero_q).lowest.positive) i h

-- the multiple goes on
pub next_multiple : (xs : List Rational) (i m r : ℕ) → m ≡ multiple_before xs i → r ≡ lcm m (under_at xs i) → r ≡ multiple_before xs (i + 1)
next_multiple xs i m r e f = f ∙ ap (λ k. lcm k (under_at xs i)) e ∙ ap (λ k. multiple_before xs k) (sym (add_one i))

-- a multiple that is too large
pub wide_multiple : (xs : List Rational) (i m : ℕ) (w : WideAt) → i < length xs → m ≡ multiple_before xs i
    → Names (Whole i) Lcm (whole (pos m)) (whole (pos (under_at xs i))) w → PRINTED_LIMIT < lcm m (under_at xs i) → IsWideAt (ListPlaces xs) w
wide_multiple xs i m w h e names wide =
    let P : ℕ → Type 0 = λ k. IsWideAt (ListPlaces xs) (record { place = Whole i; op = Lcm; left = whole (pos k); right = whole (pos (under_at xs i)) }) in
    let past : PRINTED_LIMIT < lcm (multiple_before xs i) (under_at xs i) = subst (λ (k : ℕ). PRINTED_LIMIT < lcm k (under_at xs i)) e wide in
    let here : P (multiple_before xs i) = record { at = at_multiple i h; wide = (printed_exact.multiple i (multiple_before xs i) (under_at xs i) Lcm).1 past } in
    subst (IsWideAt (ListPlaces xs)) (sym names) (subst P (sym e) here)

-- a product that is too large
pub wide_product : (xs : List Rational) (i m : ℕ) (x : Rational) (w : WideAt) → i < length xs → m ≡ multiple_before xs (length xs) → x ≡ get_or xs i zero_q
    → Names (Scaled i) Mul x (whole (pos m)) w → IsTooLargeToPrint (scaled m x) → IsWideAt (ListPlaces xs) w
wide_product xs i m x w h e ex names wide =
    let big = multiple_before xs (length xs) in
    let y = get_or xs i zero_q in
    let P : ℕ → Rational → Type 0 = λ k z. IsWideAt (ListPlaces xs) (record { place = Scaled i; op = Mul; left = z; right = whole (pos k) }) in
    let past : IsTooLargeToPrint (scaled big y) = subst (λ (k : ℕ). IsTooLargeToPrint (scaled k y)) e (subst (λ (z : Rational). IsTooLargeToPrint (scaled m z)) ex wide) in
    let here : P big y = record { at = at_product i h; wide = (printed_exact.multiplier i big Mul y (divides xs i h)).1 past } in
    subst (IsWideAt (ListPlaces xs)) (sym names) (subst (λ (k : ℕ). P k x) (sym e) (subst (P big) (sym ex) here))

-- what holds of each item of a list, and of one that is put behind it
one_more : (made : List ℤ) (z : ℤ) (k : ℕ) (P : ℤ → Type 0) → k < length made + 1 → (k < length made → P (get_or made k (pos 0))) → (k ≡ length made → P z)
    → P (get_or (made ++ z ∷ []) k (pos 0))
one_more made z k P hk before here = elim (cases_eq k (length made)) [
  | inl e ↦ subst P (sym (ap (λ j. get_or (made ++ z ∷ []) j (pos 0)) e ∙ get_or-append_seam made z [] (pos 0))) (here e)
  | inr ne ↦ subst P (sym (get_or-append made (z ∷ []) (pos 0) k (omega (arith, hk, ne)))) (before (omega (arith, hk, ne)))
]

-- one more product
pub next_product : (xs : List Rational) (i big : ℕ) (x : Rational) (made more : List ℤ) (z : ℤ) → x ≡ get_or xs i zero_q
    → AreProducts xs big i made → z ≡ scaled big x → unsigned_abs z ≤ PRINTED_LIMIT → more ≡ made ++ z ∷ [] → AreProducts xs big (i + 1) more
next_product xs i big x made more z ex p is small grown =
    let exact : z ≡ scaled big (get_or xs i zero_q) = is ∙ ap (scaled big) ex in
    let count : length (made ++ z ∷ []) ≡ i + 1 = length-append made (z ∷ []) ∙ ap (λ k. k + 1) p.count in
    let all : AreProducts xs big (i + 1) (made ++ z ∷ []) = record {
      count = count;
      each = λ k hk. one_more made z k (λ y. y ≡ scaled big (get_or xs k zero_q)) (omega (arith, hk, p.count))
          (λ l. p.each k (omega (arith, l, p.count))) (λ s. exact ∙ ap (λ j. scaled big (get_or xs j zero_q)) (sym (s ∙ p.count)));
      small = λ k hk. one_more made z k (λ y. unsigned_abs y ≤ PRINTED_LIMIT) (omega (arith, hk, p.count))
          (λ l. p.small k (omega (arith, l, p.count))) (λ s. small);
    } in
    subst (AreProducts xs big (i + 1)) (sym grown) all

-- ---- tables
-- the multiples of a table's multipliers are those of their list
same_multiple : (t : Tableau) (costs : Costs) (xs : List Rational) → AreMultipliers t costs xs → (i : ℕ) → i ≤ rows_of t
    → multiple_before xs i ≡ lcm_to i (λ m. (multiplier_of t costs m).under)
same_multiple t costs xs h i hi =
    lcm_same i (under_at xs) (λ m. (multiplier_of t costs m).under)
    (λ m hm. let e : get_or xs m zero_q ≡ multiplier_of t costs m = h.each m (omega (arith, hm, hi)) in λ k. (e k).under)

same_whole : (t : Tableau) (costs : Costs) (xs : List Rational) → AreMultipliers t costs xs → multiple_before xs (length xs) ≡ multiple_of t costs
same_whole t costs xs h = ap (multiple_before xs) h.count ∙ same_multiple t costs xs h (rows_of t) (omega arith)

-- so a place of the list is one of the table
place_of_table : (t : Tableau) (costs : Costs) (xs : List Rational) → AreMultipliers t costs xs → (o : Operation)
    → ListPlaces xs o → DualPlaces t costs o
place_of_table t costs xs h _ (at_multiple i hi) =
    let here : i < rows_of t = omega (arith, hi, h.count) in
    let e : multiple_before xs i ≡ lcm_to i (λ m. (multiplier_of t costs m).under) = same_multiple t costs xs h i (omega (arith, here)) in
    let f : get_or xs i zero_q ≡ multiplier_of t costs i = h.each i here in
    let P : ℕ → Rational → Type 0 = λ k x. DualPlaces t costs (operation (Whole i) Lcm (whole (pos k)) (whole (pos x.under))) in
    let there : P (lcm_to i (λ m. (multiplier_of t costs m).under)) (multiplier_of t costs i) = of_multiplier _ (at_whole i here) in
    subst (λ (k : ℕ). P k (get_or xs i zero_q)) (sym e) (subst (P (lcm_to i (λ m. (multiplier_of t costs m).under))) (sym f) there)
place_of_table t costs xs h _ (at_product i hi) =
    let here : i < rows_of t = omega (arith, hi, h.count) in
    let e : multiple_before xs (length xs) ≡ multiple_of t costs = same_whole t costs xs h in
    let f : get_or xs i zero_q ≡ multiplier_of t costs i = h.each i here in
    let P : ℕ → Rational → Type 0 = λ k x. DualPlaces t costs (operation (Scaled i) Mul x (whole (pos k))) in
    let there : P (multiple_of t costs) (multiplier_of t costs i) = of_multiplier _ (at_scaled i here) in
    subst (λ (k : ℕ). P k (get_or xs i zero_q)) (sym e) (subst (P (multiple_of t costs)) (sym f) there)

-- a refusal at a place of the list is one at a place of the table
pub wide_in_table : (t : Tableau) (costs : Costs) (xs : List Rational) → AreMultipliers t costs xs → (w : WideAt) → IsWideAt (ListPlaces xs) w
    → IsWideAt (DualPlaces t costs) w
wide_in_table t costs xs h w p = record { at = place_of_table t costs xs h (operation_of w) p.at; wide = p.wide }

pub refused_in_table : (t : Tableau) (costs : Costs) (xs : List Rational) → AreMultipliers t costs xs → (e : TableError) → IsRefusedAt (ListPlaces xs) e
    → IsRefusedAt (DualPlaces t costs) e
refused_in_table t costs xs h (refused.Wide w) p = wide_in_table t costs xs h w p
refused_in_table t costs xs h refused.NoMemory p = tt

-- the refusal of what is carried of a home
pub refused_home : (t : Tableau) (costs : Costs) (m : ℕ) (w : WideAt) → m < rows_of t → IsWideAt (HomePlaces t costs m) w → IsWideAt (DualPlaces t costs) w
refused_home t costs m w hm p = record { at = of_home m (operation_of w) hm p.at; wide = p.wide }

pub few_multipliers : (t : Tableau) (costs : Costs) (xs : List Rational) → AreMultipliers t costs xs → IsTableau t → length xs ≤ MOST_ROWS
few_multipliers t costs xs h is = omega (arith, h.count, is.few)

-- the products of the multipliers' list are the whole multiples of the multipliers
pub scaled_all : (t : Tableau) (costs : Costs) (xs : List Rational) (multiple : ℕ) (numbers : List ℤ) → AreMultipliers t costs xs
    → multiple ≡ multiple_before xs (length xs) → multiple ≤ PRINTED_LIMIT
    → AreProducts xs multiple (length xs) numbers → AreScaled t costs (record { multiple = multiple; numbers = numbers })
scaled_all t costs xs multiple numbers h is small p =
    let e : multiple_before xs (length xs) ≡ multiple_of t costs = same_whole t costs xs h in
    record {
      multiple = is ∙ e;
      count = p.count ∙ h.count;
      numbers = λ m hm. p.each m (omega (arith, hm, h.count)) ∙ (λ k. scaled ((is ∙ e) k) (h.each m hm k));
      small = subst (λ (k : ℕ). k ≤ PRINTED_LIMIT) (is ∙ e) small;
      all_small = λ m hm. p.small m (omega (arith, hm, h.count));
    }
