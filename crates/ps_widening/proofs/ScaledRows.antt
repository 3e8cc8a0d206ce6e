-- Rows in their common unit.
use Rattle.std.proofs.Common.{◌≡◌, ℕ, zero, suc, ◌+◌, ◌*◌, ◌<◌, ◌≤◌, ℤ, pos, ◌*ℤ◌, unsigned_abs, false, Option, Some, None, inl, inr, List, [], ◌∷◌, ◌++◌, length, map, take, get_or, All, to_z, of_z, refl, ap, ◌∙◌, arith}
use Rattle.std.specs.Int.{w64}
use Rattle.std.proofs.lemmas.Int.{unsigned_abs-mul, to_z-of_z, fits_signed_from_abs}
use Rattle.std.proofs.lemmas.Bool.{cases_Bool}
use Rattle.std.proofs.lemmas.Bool.Decides.{nat_tests}
use Rattle.std.proofs.lemmas.List.{take_more, map-append, length-map}
use Rattle.std.proofs.lemmas.List.Elements.{All-cons, All-nil, All-head, All-tail, All-map}
use Rattle.std.proofs.Math.Nat.{mul-add}
use Rattle.ps_formula.specs.declared.node.Node.{Node}
use Rattle.ps_problem.specs.declared.limits.TheConstants.{GREATEST_SCALE, MOST_BOUNDS, MOST_SIZES}
use Rattle.ps_problem.specs.declared.row.Row.{Row}
use Rattle.ps_problem.specs.Problems.{Parts, AreParts, IsTerm, terms_size}
use Rattle.ps_problem.specs.Rows.{rows_in, IsRow, row_size}
use Rattle.ps_problem.proofs.BoundRows.{are-rows}
use Rattle.ps_widening.specs.Measured.{IsMeasured}
use Rattle.ps_widening.specs.Common.{IsCommon}
use Rattle.ps_widening.specs.Units.{common_unit, first_past, first_wide, or_later, factor, is_wide, scaled_terms, scaled_row, scaled_rows, unit_of, IsScaled}
use Rattle.ps_widening.proofs.CommonUnits.{unit-within}

-- ---- numbers
-- a number of a row is read back from the machine's
pub number-back : (z : ℤ) → unsigned_abs z ≤ MOST_SIZES → to_z w64 (of_z w64 z) ≡ z
number-back z small = to_z-of_z w64 z (fits_signed_from_abs w64 z (omega (arith, small)))

-- so is its product
pub product-back : (k : ℕ) (z p : ℤ) → unsigned_abs z ≤ MOST_SIZES → unsigned_abs p ≤ GREATEST_SCALE * MOST_SIZES → p ≡ (pos k *ℤ to_z w64 (of_z w64 z))
    → to_z w64 (of_z w64 p) ≡ (pos k *ℤ z)
product-back k z p small size e = to_z-of_z w64 p (fits_signed_from_abs w64 p (omega (arith, size))) ∙ e ∙ ap (λ n. pos k *ℤ n) (number-back z small)

term-small : (ts : List (ℕ × ℤ)) (i : ℕ) (t : ℕ × ℤ) → i < length ts → unsigned_abs (get_or ts i t).1 ≤ terms_size ts
term-small [] i t h = absurd (omega arith)
term-small (x ∷ xs) zero t h = omega arith
term-small (x ∷ xs) (suc i) t h = let k = term-small xs i t (omega arith) in omega (arith, k)

pub terms-small : (r : Row) → row_size r ≤ MOST_SIZES → All (λ t. unsigned_abs t.1 ≤ MOST_SIZES) r.terms
terms-small r small i t h = let k = term-small r.terms i t h in omega (arith, k, small)

-- ---- lists
pub terms-more : (k : ℕ) (ts : List (ℕ × ℤ)) (i : ℕ) (t : ℕ × ℤ) (old new : List (ℕ × ℤ)) (p : ℤ) → i < length ts → old ≡ scaled_terms k (take i ts)
    → new ≡ old ++ ((get_or ts i t).0, p) ∷ [] → p ≡ (pos k *ℤ (get_or ts i t).1) → new ≡ scaled_terms k (take (i + 1) ts)
terms-more k ts i t old new p lt so e is =
    rw (take_more ts i t lt, map-append {B = ℕ × ℤ} (λ (x : ℕ × ℤ). (x.0, pos k *ℤ x.1)) (take i ts) (get_or ts i t ∷ []), ← so, ← is) e

pub rows-more : (unit : ℕ) (rs : List Row) (i : ℕ) (r : Row) (old new : List Row) (s : Row) → i < length rs → old ≡ map (scaled_row unit) (take i rs)
    → new ≡ old ++ s ∷ [] → s ≡ scaled_row unit (get_or rs i r) → new ≡ map (scaled_row unit) (take (i + 1) rs)
rows-more unit rs i r old new s lt so e is = rw (take_more rs i r lt, map-append (scaled_row unit) (take i rs) (get_or rs i r ∷ []), ← so, ← is) e

-- ---- limits
pub measured : (ns : List Node) (rs : List Row) → All (IsRow ns) rs → All IsMeasured rs
measured ns rs are i r h = let is = are i r h in record { some = is.unit_least; most = is.unit_most; small = is.small }

size-scaled : (k : ℕ) (ts : List (ℕ × ℤ)) → terms_size (scaled_terms k ts) ≡ k * terms_size ts
size-scaled k [] = omega arith
size-scaled k (t ∷ ts) =
    let a = unsigned_abs-mul (pos k) t.1 in
    let h = size-scaled k ts in
    let m : k * (unsigned_abs t.1 + terms_size ts) ≡ k * unsigned_abs t.1 + k * terms_size ts = mul-add k (unsigned_abs t.1) (terms_size ts) in
    omega (arith, a, h, m)

scaled-size : (unit : ℕ) (r : Row) → row_size (scaled_row unit r) ≡ factor unit r * row_size r
scaled-size unit r =
    let a = unsigned_abs-mul (pos (factor unit r)) r.base in
    let h = size-scaled (factor unit r) r.terms in
    let m : factor unit r * (unsigned_abs r.base + terms_size r.terms) ≡ factor unit r * unsigned_abs r.base + factor unit r * terms_size r.terms = mul-add (factor unit r) (unsigned_abs r.base) (terms_size r.terms) in
    omega (arith, a, h, m)

row-sound : (ns : List Node) (unit : ℕ) (r : Row) → 1 ≤ unit → unit ≤ GREATEST_SCALE → IsRow ns r → is_wide unit r ≡ false → IsRow ns (scaled_row unit r)
row-sound ns unit r some most is narrow = record {
  nodes = All-map (IsTerm ns) {Y = ℕ × ℤ} (λ t. (t.0, pos (factor unit r) *ℤ t.1)) r.terms (λ i t h. is.nodes i t h);
  unit_least = some;
  unit_most = most;
  small = let e = scaled-size unit r in let n : factor unit r * row_size r ≤ MOST_SIZES = grind (arith, nat_tests, narrow) in omega (arith, e, n);
}

pub rows-sound : (ns : List Node) (unit n : ℕ) (rs : List Row) → 1 ≤ unit → unit ≤ GREATEST_SCALE → All (IsRow ns) rs → first_wide n unit rs ≡ None
    → All (IsRow ns) (map (scaled_row unit) rs)
rows-sound ns unit n [] some most are e = All-nil (IsRow ns)
rows-sound ns unit n (r ∷ rs) some most are e = elim (cases_Bool (is_wide unit r)) [
  | inl wide ↦ absurd (let no : Some n ≡ None = rw wide at e in cc)
  | inr narrow ↦ All-cons (IsRow ns) (scaled_row unit r) (map (scaled_row unit) rs) (row-sound ns unit r some most (All-head (IsRow ns) r rs are) narrow)
      (rows-sound ns unit (suc n) rs some most (All-tail (IsRow ns) r rs are) (rw narrow at e))
]

-- what a common unit within the limits tells of the rows
pub is-common : (p : Parts) (unit : ℕ) (rs scaled : List Row) → rs ≡ rows_in p.sentences → IsScaled p → (first_past 1 1 rs ≡ None) × (unit ≡ common_unit rs) → 0 < unit → unit ≤ GREATEST_SCALE
    → All (IsRow p.nodes) rs → length rs ≤ MOST_BOUNDS → scaled ≡ map (scaled_row unit) rs → IsCommon p (record { unit = unit; rows = scaled })
is-common p unit rs scaled e is tells some most are few map_is =
    let wide : first_wide 1 (common_unit rs) rs ≡ None = rw (← e, tells.0) at is in
    record {
      unit = tells.1 ∙ ap common_unit e;
      rows = map_is ∙ (λ i. map (scaled_row (tells.1 i)) rs) ∙ ap (λ xs. map (scaled_row (common_unit xs)) xs) e;
      sound = rw map_is (rows-sound p.nodes unit 1 rs (omega (arith, some)) most are (rw tells.1 wide));
      few = rw (map_is, length-map) few;
      some = omega (arith, some);
      most = most;
    }

-- nothing and no number
past-or-wide : (o later : Option ℕ) → or_later o later ≡ None → (o ≡ None) × (later ≡ None)
past-or-wide None later e = (refl, e)
past-or-wide (Some n) later e = absurd (cc)

-- the common unit of a problem whose rows have one within the limits
pub unit-sound : (p : Parts) → AreParts p → IsScaled p → (1 ≤ unit_of p) × (unit_of p ≤ GREATEST_SCALE)
unit-sound p are is =
    let rs = rows_in p.sentences in
    let none = past-or-wide (first_past 1 1 rs) (first_wide 1 (common_unit rs) rs) is in
    let u = unit-within 1 1 rs (measured p.nodes rs (are-rows p.nodes p.sentences are.bounds)) (omega arith) (omega arith) none.0 in
    (omega (arith, u.0), u.1)

-- its rows in that unit
pub rows-scaled : (p : Parts) → AreParts p → IsScaled p → All (IsRow p.nodes) (scaled_rows p)
rows-scaled p are is =
    let rs = rows_in p.sentences in
    let none = past-or-wide (first_past 1 1 rs) (first_wide 1 (common_unit rs) rs) is in
    let u = unit-sound p are is in
    rows-sound p.nodes (unit_of p) 1 rs u.0 u.1 (are-rows p.nodes p.sentences are.bounds) none.1
