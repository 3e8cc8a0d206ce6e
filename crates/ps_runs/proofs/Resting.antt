-- At rest with no world priced above, a table's dual is a certificate.
use Rattle.std.proofs.Common.{◌≡◌, ℕ, suc, ◌+◌, ◌/◌, ◌<◌, ℤ, pos, ◌≤ℤ◌, neg_ℤ, false, List, [], ◌∷◌, map, length, get_or, refl, ap, ◌∙◌, subst, arith}
use Rattle.std.proofs.lemmas.Int.{ints}
use Rattle.ps_meaning.specs.Rational.{Rational, whole, den, mul, neg, zero_q}
use Rattle.ps_meaning.specs.Order.{IsNonneg, AtMost}
use Rattle.ps_meaning.proofs.Ring.{var, plus, minus, none}
use Rattle.ps_meaning.proofs.Field.{ring_q}
use Rattle.ps_meaning.proofs.Order.{sign_of_quotient}
use Rattle.ps_meaning.proofs.Sums.{sum_same}
use Rattle.ps_meaning.specs.Formula.{World}
use Rattle.ps_meaning.specs.declared.side.Side.{Side}
use Rattle.ps_meaning.specs.declared.side.Side.TheVariants.{AtLeast, AtMost as Most, Exactly}
use Rattle.ps_meaning.specs.Rows.{Row}
use Rattle.ps_meaning.proofs.Integers.{mul-nonpos}
use Rattle.ps_meaning.proofs.IntRing.{*ℤ_comm}
use Rattle.ps_simplex.specs.Table.{carried_by, IsBasisTable}
use Rattle.ps_simplex.proofs.Pricing.{carried_is_priced}
use Rattle.ps_simplex.proofs.Units.{less_one}
use Rattle.ps_simplex.specs.Rule.{carried, IsResting}
use Rattle.ps_simplex.proofs.Combination.{resting_most}
use Rattle.ps_problem.specs.Rows.{signed_by}
use Rattle.ps_runs.specs.Rows.{Setting, phase_of, is_exact, entries_of, artificial_rows, rows_of, columns_of, width_of, cost_of, table_of}
use Rattle.ps_runs.specs.Certificates.{signed, table_dual, multiple_of, whole_multiplier, price}
use Rattle.ps_runs.proofs.Columns.{world_at, slack_cost}
use Rattle.ps_simplex.specs.RuleLaws.{multipliers}
use Rattle.ps_meaning.specs.Scaled.{scaled}
use Rattle.ps_claims.specs.declared.claim_kind.ClaimKind.{ClaimKind}
use Rattle.ps_claims.specs.declared.claim_kind.ClaimKind.TheVariants.{Nothing, Lower, Upper}
use Rattle.ps_claims.specs.Duals.{HasSign, HaveSigns}

-- ---- a world of the pool
pub priced_in_pool : (kind : ClaimKind) (s : Setting) (pool : List World) (basic : ℕ → ℕ) (X : ℕ → ℕ → Rational) (k : ℕ) → IsBasisTable (rows_of s) (width_of s pool) (columns_of s pool) basic X → k < length pool
    → carried (table_of s pool basic X) (cost_of kind s pool) (suc (rows_of s + k)) ≡ price s (table_of s pool basic X) (cost_of kind s pool) (get_or pool k [])
priced_in_pool kind s pool basic X k t h =
    carried_is_priced (rows_of s) (width_of s pool) (columns_of s pool) X basic (cost_of kind s pool) t (suc (rows_of s + k)) (omega arith)
    ∙ sum_same (rows_of s) (λ m. mul (carried_by (rows_of s) (cost_of kind s pool) basic X (suc m)) (columns_of s pool m (suc (rows_of s + k)))) (λ m. mul (multipliers (table_of s pool basic X) (cost_of kind s pool) m) (whole (get_or (entries_of s (get_or pool k [])) m (pos 0))))
    (λ m l. ap (mul (carried_by (rows_of s) (cost_of kind s pool) basic X (suc m))) (world_at s pool m k))

-- ---- signs
low_over : (x : Rational) → IsNonneg (neg x) → x.over ≤ℤ pos 0
unfolding neg
low_over x h = let k = sign_of_quotient (neg_ℤ x.over) (den x) h in omega (arith, ints, k)

scaled_low : (big : ℕ) (x : Rational) → IsNonneg (neg x) → scaled big x ≤ℤ pos 0
scaled_low big x h =
    let low = mul-nonpos (pos (big / x.under)) x.over (omega (arith, ints)) (low_over x h) in
    subst (λ z. z ≤ℤ pos 0) (*ℤ_comm (pos (big / x.under)) x.over) low

turned_sign : (side : Side) (p : ℤ) → (is_exact side ≡ false → p ≤ℤ pos 0) → HasSign side (signed_by side p)
turned_sign AtLeast p h = let k = h refl in omega (arith, ints, k)
turned_sign Most p h = h refl
turned_sign Exactly p h = tt

signed_from : (rs : List Row) (P : ℕ → ℤ) → ((i : ℕ) → i < length rs → get_or (map (λ r. is_exact r.side) rs) i false ≡ false → P i ≤ℤ pos 0) → HaveSigns rs (signed rs P)
signed_from [] P h = tt
signed_from (r ∷ rs) P h = (turned_sign r.side (P 0) (h 0 (omega arith)), signed_from rs (λ i. P (suc i)) (λ i l. h (suc i) (omega arith)))

at_most_zero : (x : Rational) → AtMost x zero_q → IsNonneg (neg x)
at_most_zero x h = subst IsNonneg (ring_q (x ∷ []) (plus none (minus (var 0))) (minus (var 0)) refl) h

signs_of : (kind : ClaimKind) (s : Setting) (pool : List World) (basic : ℕ → ℕ) (X : ℕ → ℕ → Rational) → IsResting (phase_of kind) (table_of s pool basic X) (cost_of kind s pool)
    → HaveSigns s.rows (signed s.rows (λ i. whole_multiplier (table_of s pool basic X) (cost_of kind s pool) (suc i)))
signs_of kind s pool basic X rest =
    signed_from s.rows (λ i. whole_multiplier (table_of s pool basic X) (cost_of kind s pool) (suc i))
    (λ i l e. scaled_low (multiple_of (table_of s pool basic X) (cost_of kind s pool)) (multipliers (table_of s pool basic X) (cost_of kind s pool) (suc i))
    (at_most_zero (multipliers (table_of s pool basic X) (cost_of kind s pool) (suc i))
    (subst (AtMost (multipliers (table_of s pool basic X) (cost_of kind s pool) (suc i))) (slack_cost kind s pool (suc i) (omega arith) e)
    (resting_most (phase_of kind) (table_of s pool basic X) (cost_of kind s pool) (suc (suc i)) rest (omega arith) (omega arith) (ap (λ k. get_or (artificial_rows s) k false) (less_one (suc i)) ∙ e)))))

pub rest_signs : (kind : ClaimKind) (s : Setting) (pool : List World) (basic : ℕ → ℕ) (X : ℕ → ℕ → Rational) → IsResting (phase_of kind) (table_of s pool basic X) (cost_of kind s pool)
    → HaveSigns s.rows (table_dual kind s (table_of s pool basic X) (cost_of kind s pool)).rows
rest_signs Nothing s pool basic X rest = signs_of Nothing s pool basic X rest
rest_signs Lower s pool basic X rest = signs_of Lower s pool basic X rest
rest_signs Upper s pool basic X rest = signs_of Upper s pool basic X rest
