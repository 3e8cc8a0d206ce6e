-- A priced world is new, and its column improves.
use Rattle.std.proofs.Common.{◌≡◌, ℕ, suc, ◌+◌, ◌-◌, ◌<◌, pos, ◌≤ℤ◌, false, List, [], ◌∷◌, ◌++◌, length, get_or, get_or-append-add, sym, refl, ap, ◌∙◌, subst, arith, inl, inr}
use Rattle.std.proofs.lemmas.Int.{ints}
use Rattle.ps_meaning.specs.Rational.{Rational, whole, mul}
use Rattle.ps_meaning.specs.Order.{IsLess}
use Rattle.ps_meaning.proofs.Sums.{sum_same}
use Rattle.ps_meaning.specs.Formula.{World}
use Rattle.ps_simplex.specs.Table.{Widened, IsBasisTable}
use Rattle.ps_simplex.proofs.Units.{less_one}
use Rattle.ps_simplex.specs.Rule.{carried, Improves, IsDueToEnd, IsMoving, IsResting}
use Rattle.ps_runs.specs.Rows.{Setting, phase_of, entries_of, artificial_rows, rows_of, columns_of, width_of, world_cost, cost_of, table_of, IsTable}
use Rattle.ps_runs.specs.Certificates.{table_dual, price}
use Rattle.ps_runs.proofs.Columns.{rows_length, home_cost_at, world_cost_at}
use Rattle.ps_runs.proofs.Combination.{above_priced}
use Rattle.ps_runs.proofs.Resting.{priced_in_pool}
use Rattle.ps_runs.proofs.BasicSolution.{column_cases}
use Rattle.ps_runs.proofs.Starts.{added_table}
use Rattle.std.proofs.lemmas.List.{length-append, get_or_append_left, get_or_past}
use Rattle.ps_simplex.specs.RuleLaws.{multipliers}
use Rattle.ps_claims.specs.declared.claim_kind.ClaimKind.{ClaimKind}
use Rattle.ps_claims.specs.declared.claim_kind.ClaimKind.TheVariants.{Nothing, Lower, Upper}
use Rattle.ps_claims.specs.Duals.{combination}

-- the column of a world isn't artificial
pub world_real : (s : Setting) (k : ℕ) → get_or (artificial_rows s) (suc (rows_of s + k) - 1) false ≡ false
world_real s k = ap (λ i. get_or (artificial_rows s) i false) (less_one (rows_of s + k)) ∙ get_or_past (artificial_rows s) (rows_of s + k) false (omega (arith, rows_length s))

-- a world of the pool that is priced above its cost improves
pool_improves : (kind : ClaimKind) (s : Setting) (pool : List World) (basic : ℕ → ℕ) (X : ℕ → ℕ → Rational) (k : ℕ) → IsBasisTable (rows_of s) (width_of s pool) (columns_of s pool) basic X
    → k < length pool
    → IsLess (whole (world_cost kind s (get_or pool k []))) (price s (table_of s pool basic X) (cost_of kind s pool) (get_or pool k []))
    → Improves (table_of s pool basic X) (cost_of kind s pool) (suc (rows_of s + k))
pool_improves kind s pool basic X k t l less = record {
  column = omega arith;
  within = omega arith;
  real = world_real s k;
  more =
      subst (λ c. IsLess c (carried (table_of s pool basic X) (cost_of kind s pool) (suc (rows_of s + k)))) (sym (world_cost_at kind s pool k l))
      (subst (IsLess (whole (world_cost kind s (get_or pool k [])))) (sym (priced_in_pool kind s pool basic X k t l)) less);
}

-- so no world of the pool is priced at rest
pub priced_apart : (kind : ClaimKind) (s : Setting) (pool : List World) (basic : ℕ → ℕ) (X : ℕ → ℕ → Rational) (k : ℕ)
    → IsBasisTable (rows_of s) (width_of s pool) (columns_of s pool) basic X
    → IsResting (phase_of kind) (table_of s pool basic X) (cost_of kind s pool) → k < length pool
    → pos 1 ≤ℤ combination kind s.rows s.query (table_dual kind s (table_of s pool basic X) (cost_of kind s pool)) (get_or pool k []) → ⊥
priced_apart kind s pool basic X k t rest l above =
    rest.none (suc (rows_of s + k)) (pool_improves kind s pool basic X k t l ((above_priced kind s (table_of s pool basic X) (cost_of kind s pool) (get_or pool k []) refl).0 (omega (arith, ints, above))))

pub priced_is_new : (kind : ClaimKind) (s : Setting) (pool : List World) (basic : ℕ → ℕ) (X : ℕ → ℕ → Rational) (k : ℕ) → IsTable s pool basic X
    → IsResting (phase_of kind) (table_of s pool basic X) (cost_of kind s pool) → k < length pool
    → pos 1 ≤ℤ combination kind s.rows s.query (table_dual kind s (table_of s pool basic X) (cost_of kind s pool)) (get_or pool k []) → ⊥
priced_is_new kind s pool basic X k t rest l above = priced_apart kind s pool basic X k t.stands rest l above

-- costs before the new world are the same
pub same_cost : (kind : ClaimKind) (s : Setting) (pool : List World) (w : World) (j : ℕ) → 0 < j → j < width_of s pool → cost_of kind s (pool ++ w ∷ []) j ≡ cost_of kind s pool j
same_cost kind s pool w j h l =
    elim (column_cases (rows_of s) (length pool) j h l) [
      | inl p ↦ ap (cost_of kind s (pool ++ w ∷ [])) p.2 ∙ home_cost_at kind s (pool ++ w ∷ []) p.0 p.1 ∙ sym (home_cost_at kind s pool p.0 p.1) ∙ ap (cost_of kind s pool) (sym p.2)
      | inr p ↦
          ap (cost_of kind s (pool ++ w ∷ [])) p.2
          ∙ world_cost_at kind s (pool ++ w ∷ []) p.0 (omega (arith, p.1, length-append pool (w ∷ [])))
          ∙ ap (λ v. whole (world_cost kind s v)) (get_or_append_left pool (w ∷ []) [] p.0 p.1)
          ∙ sym (world_cost_at kind s pool p.0 p.1) ∙ ap (cost_of kind s pool) (sym p.2)
    ]

pub last_world : (pool : List World) (w : World) → get_or (pool ++ w ∷ []) (length pool) [] ≡ w
last_world pool w =
    let e : length pool ≡ length pool + 0 = omega arith in
    ap (λ i. get_or (pool ++ w ∷ []) i []) e ∙ get_or-append-add pool (w ∷ []) 0 []

module _ (kind : ClaimKind) (s : Setting) (pool : List World) (w : World) (basic : ℕ → ℕ) (X Z : ℕ → ℕ → Rational) (t : IsTable s pool basic X) (wide : Widened (rows_of s) (width_of s pool) (columns_of s (pool ++ w ∷ [])) X Z) where
  same_multiplier : (m : ℕ) → m < rows_of s → multipliers (table_of s (pool ++ w ∷ []) basic Z) (cost_of kind s (pool ++ w ∷ [])) m ≡ multipliers (table_of s pool basic X) (cost_of kind s pool) m
  same_multiplier m h =
      sum_same (rows_of s) (λ i. mul (cost_of kind s (pool ++ w ∷ []) (basic i)) (Z i (suc m))) (λ i. mul (cost_of kind s pool (basic i)) (X i (suc m)))
      (λ i l k. mul (same_cost kind s pool w (basic i) (t.first i l) (t.last i l) k) (wide.same i (suc m) l (omega arith) k))

  same_price : (v : World) → price s (table_of s (pool ++ w ∷ []) basic Z) (cost_of kind s (pool ++ w ∷ [])) v ≡ price s (table_of s pool basic X) (cost_of kind s pool) v
  same_price v =
      sum_same (rows_of s) (λ m. mul (multipliers (table_of s (pool ++ w ∷ []) basic Z) (cost_of kind s (pool ++ w ∷ [])) m) (whole (get_or (entries_of s v) m (pos 0))))
      (λ m. mul (multipliers (table_of s pool basic X) (cost_of kind s pool) m) (whole (get_or (entries_of s v) m (pos 0))))
      (λ m l. ap (λ k. mul k (whole (get_or (entries_of s v) m (pos 0)))) (same_multiplier m l))

  -- the column of a priced world improves once it is there
  pub priced_improves : pos 1 ≤ℤ combination kind s.rows s.query (table_dual kind s (table_of s pool basic X) (cost_of kind s pool)) w
      → Improves (table_of s (pool ++ w ∷ []) basic Z) (cost_of kind s (pool ++ w ∷ [])) (suc (rows_of s + length pool))
  priced_improves above =
      let less : IsLess (whole (world_cost kind s w)) (price s (table_of s pool basic X) (cost_of kind s pool) w) =
      (above_priced kind s (table_of s pool basic X) (cost_of kind s pool) w refl).0 (omega (arith, ints, above)) in
      let moved : IsLess (whole (world_cost kind s w)) (price s (table_of s (pool ++ w ∷ []) basic Z) (cost_of kind s (pool ++ w ∷ [])) w) = subst (IsLess (whole (world_cost kind s w))) (sym (same_price w)) less in
      pool_improves kind s (pool ++ w ∷ []) basic Z (length pool) (added_table s pool w basic X Z t wide).stands (omega (arith, length-append pool (w ∷ [])))
      (subst (λ v. IsLess (whole (world_cost kind s v)) (price s (table_of s (pool ++ w ∷ []) basic Z) (cost_of kind s (pool ++ w ∷ [])) v)) (sym (last_world pool w)) moved)

  still_unfinished : (b : ClaimKind) → (IsDueToEnd (phase_of b) (table_of s pool basic X) → ⊥) → IsDueToEnd (phase_of b) (table_of s (pool ++ w ∷ []) basic Z) → ⊥
  still_unfinished Nothing h feasible = h (record { zero = λ i l art. sym (wide.same i 0 l (omega arith)) ∙ feasible.zero i l art })
  still_unfinished Lower h due = due
  still_unfinished Upper h due = due

  -- so the table is moving
  pub priced_moves : IsResting (phase_of kind) (table_of s pool basic X) (cost_of kind s pool)
      → pos 1 ≤ℤ combination kind s.rows s.query (table_dual kind s (table_of s pool basic X) (cost_of kind s pool)) w
      → IsMoving (phase_of kind) (table_of s (pool ++ w ∷ []) basic Z) (cost_of kind s (pool ++ w ∷ []))
  priced_moves rest above = record {
    unfinished = still_unfinished kind rest.unfinished;
    column = suc (rows_of s + length pool);
    improves = priced_improves above;
  }
