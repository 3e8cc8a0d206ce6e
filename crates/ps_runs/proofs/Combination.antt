-- A dual's combination of a world is the same multiple of what the world's column is priced above its cost.
use Rattle.std.proofs.Common.{◌≡◌, ◌↔◌, ℕ, zero, suc, ◌<◌, ℤ, pos, ◌+ℤ◌, ◌*ℤ◌, ◌<ℤ◌, neg_ℤ, List, [], ◌∷◌, map, length, get_or, sym, refl, ap, ◌∙◌, subst, arith}
use Rattle.std.proofs.lemmas.Int.{ints}
use Rattle.ps_meaning.specs.Rational.{Rational, whole, mul, sub}
use Rattle.ps_meaning.specs.Order.{IsLess}
use Rattle.ps_meaning.specs.Sums.{int_sum_to}
use Rattle.ps_meaning.proofs.IntRing.{neg-*ℤ, *ℤ_comm, *ℤ-zero}
use Rattle.ps_meaning.specs.Formula.{World}
use Rattle.ps_meaning.specs.declared.side.Side.{Side}
use Rattle.ps_meaning.specs.declared.side.Side.TheVariants.{AtLeast, AtMost, Exactly}
use Rattle.ps_meaning.specs.Rows.{Row, indicator, row_in}
use Rattle.ps_simplex.specs.Rule.{SimplexTable}
use Rattle.ps_simplex.proofs.Combination.{combination_is, improves_from, improves_back}
use Rattle.ps_problem.specs.Rows.{signed_by}
use Rattle.ps_runs.specs.Rows.{Setting, both_of, entry_in, entries_of, rows_of, world_cost}
use Rattle.ps_runs.specs.Certificates.{signed, table_dual, multiple_of, whole_multiplier, price}
use Rattle.ps_meaning.proofs.Scaling.{scaled_is}
use Rattle.ps_meaning.proofs.Multiples.{lcm_to_positive, lcm_to_multiple}
use Rattle.ps_simplex.specs.RuleLaws.{multipliers}
use Rattle.ps_claims.specs.declared.claim_kind.ClaimKind.{ClaimKind}
use Rattle.ps_claims.specs.declared.claim_kind.ClaimKind.TheVariants.{Nothing, Lower, Upper}
use Rattle.ps_claims.specs.Duals.{sum_of_rows, combination}

pub neg_out : (x y : ℤ) → x *ℤ neg_ℤ y ≡ neg_ℤ (x *ℤ y)
neg_out x y = *ℤ_comm x (neg_ℤ y) ∙ neg-*ℤ y x ∙ ap neg_ℤ (*ℤ_comm y x)

turned_out : (side : Side) (x y : ℤ) → signed_by side x *ℤ y ≡ x *ℤ signed_by side y
turned_out AtLeast x y = neg-*ℤ x y ∙ sym (neg_out x y)
turned_out AtMost x y = refl
turned_out Exactly x y = refl

-- a sum, its first part apart
sum_first : (n : ℕ) (f : ℕ → ℤ) → int_sum_to (suc n) f ≡ f 0 +ℤ int_sum_to n (λ i. f (suc i))
sum_first zero f = omega (arith, ints)
sum_first (suc n) f = let e = sum_first n f in omega (arith, ints, e)

-- a number for each row
pub signed-length : (rs : List Row) (P : ℕ → ℤ) → length (signed rs P) ≡ length rs
signed-length [] P = refl
signed-length (r ∷ rs) P = ap suc (signed-length rs (λ i. P (suc i)))

rows_sum_is : (rs : List Row) (P : ℕ → ℤ) (w : World) → sum_of_rows rs (signed rs P) w ≡ int_sum_to (length rs) (λ i. P i *ℤ get_or (map (entry_in w) rs) i (pos 0))
rows_sum_is [] P w = refl
rows_sum_is (r ∷ rs) P w =
    (λ i. turned_out r.side (P 0) (row_in r w) i +ℤ rows_sum_is rs (λ k. P (suc k)) w i)
    ∙ sym (sum_first (length rs) (λ i. P i *ℤ get_or (map (entry_in w) (r ∷ rs)) i (pos 0)))

-- the sum over all rows
entries_sum : (s : Setting) (P : ℕ → ℤ) (w : World)
    → int_sum_to (rows_of s) (λ m. P m *ℤ get_or (entries_of s w) m (pos 0)) ≡ (P 0 *ℤ indicator s.query.evidence w) +ℤ sum_of_rows s.rows (signed s.rows (λ i. P (suc i))) w
entries_sum s P w =
    sum_first (length s.rows) (λ m. P m *ℤ get_or (entries_of s w) m (pos 0))
    ∙ ap (λ k. (P 0 *ℤ indicator s.query.evidence w) +ℤ k) (sym (rows_sum_is s.rows (λ i. P (suc i)) w))

-- the combination of a table's dual, by rows
combination_sum : (kind : ClaimKind) (s : Setting) (f : SimplexTable) (cost : ℕ → Rational) (w : World)
    → combination kind s.rows s.query (table_dual kind s f cost) w
    ≡ int_sum_to (rows_of s) (λ m. whole_multiplier f cost m *ℤ get_or (entries_of s w) m (pos 0)) +ℤ (neg_ℤ (pos (multiple_of f cost)) *ℤ world_cost kind s w)
combination_sum Nothing s f cost w =
    let e = entries_sum s (whole_multiplier f cost) w in
    let z = *ℤ-zero (neg_ℤ (pos (multiple_of f cost))) in
    omega (arith, ints, e, z)
combination_sum Lower s f cost w =
    let e = entries_sum s (whole_multiplier f cost) w in
    let z = neg-*ℤ (pos (multiple_of f cost)) (indicator (both_of s) w) in
    omega (arith, ints, e, z)
combination_sum Upper s f cost w =
    let e = entries_sum s (whole_multiplier f cost) w in
    let z = neg-*ℤ (pos (multiple_of f cost)) (neg_ℤ (indicator (both_of s) w)) in
    let y = neg_out (pos (multiple_of f cost)) (indicator (both_of s) w) in
    let x = neg-*ℤ (whole_multiplier f cost 0) (indicator s.query.evidence w) in
    omega (arith, ints, e, z, y, x)

under_positive : (f : SimplexTable) (cost : ℕ → Rational) (m : ℕ) → 0 < (multipliers f cost m).under
under_positive f cost m = (multipliers f cost m).lowest.positive

pub multiple_positive : (f : SimplexTable) (cost : ℕ → Rational) → 0 < multiple_of f cost
multiple_positive f cost = lcm_to_positive f.rows (λ m. (multipliers f cost m).under) (λ i l. under_positive f cost i)

pub multiplier_scaled : (f : SimplexTable) (cost : ℕ → Rational) (m : ℕ) → m < f.rows → whole (whole_multiplier f cost m) ≡ mul (whole (pos (multiple_of f cost))) (multipliers f cost m)
multiplier_scaled f cost m l = scaled_is (multiple_of f cost) (multipliers f cost m) (lcm_to_multiple f.rows (λ k. (multipliers f cost k).under) (λ i r. under_positive f cost i) m l)

-- the combination is a positive whole multiple of what the world's column is priced above its cost
pub gain_is : (kind : ClaimKind) (s : Setting) (f : SimplexTable) (cost : ℕ → Rational) (w : World) → f.rows ≡ rows_of s
    → whole (combination kind s.rows s.query (table_dual kind s f cost) w) ≡ mul (whole (pos (multiple_of f cost))) (sub (price s f cost w) (whole (world_cost kind s w)))
gain_is kind s f cost w e =
    ap whole (combination_sum kind s f cost w)
    ∙ combination_is (rows_of s) (multiple_of f cost) (whole_multiplier f cost) (λ m. get_or (entries_of s w) m (pos 0)) (world_cost kind s w) (multipliers f cost) (price s f cost w)
    (λ m l. multiplier_scaled f cost m (subst (λ k. m < k) (sym e) l))
    refl

-- so it is at least 1 exactly where the column is priced above its cost
pub above_priced : (kind : ClaimKind) (s : Setting) (f : SimplexTable) (cost : ℕ → Rational) (w : World) → f.rows ≡ rows_of s
    → (pos 0 <ℤ combination kind s.rows s.query (table_dual kind s f cost) w) ↔ IsLess (whole (world_cost kind s w)) (price s f cost w)
above_priced kind s f cost w e = (
  improves_from (multiple_of f cost) (combination kind s.rows s.query (table_dual kind s f cost) w) (price s f cost w) (whole (world_cost kind s w)) (gain_is kind s f cost w e),
  improves_back (multiple_of f cost) (combination kind s.rows s.query (table_dual kind s f cost) w) (price s f cost w) (whole (world_cost kind s w)) (multiple_positive f cost) (gain_is kind s f cost w e),
)
