-- The tables of the stages of a run: each has one, and after a priced world another isn't priced, nor does phase one end.
use Rattle.std.proofs.Common.{◌≡◌, ◌≢◌, ℕ, suc, ◌+◌, ◌-◌, ◌<◌, pos, ◌≤ℤ◌, false, eqb, ltb, cond, List, [], ◌∷◌, ◌++◌, length, get_or, inl, inr, sym, refl, ap, ◌∙◌, subst, arith}
use Rattle.std.proofs.lemmas.Int.{ints}
use Rattle.std.proofs.lemmas.Bool.{lt-ltb}
use Rattle.std.proofs.lemmas.Bool.Decides.{eqb_tells, nat_tests}
use Rattle.std.proofs.lemmas.List.{length-append}
use Rattle.ps_meaning.specs.Formula.{World}
use Rattle.ps_meaning.specs.Rational.{Rational, whole, mul, sub, div, zero_q}
use Rattle.ps_meaning.specs.Sums.{sum_to}
use Rattle.ps_meaning.proofs.Sums.{sum_same}
use Rattle.ps_meaning.proofs.Order.{above_not_zero}
use Rattle.ps_simplex.specs.Table.{Pivoted, Based, Belongs, IsBasisTable, Widened, unit_at}
use Rattle.ps_simplex.proofs.PivotKeeps.{stands_kept}
use Rattle.ps_simplex.proofs.Columns.{stands_more}
use Rattle.ps_simplex.proofs.OneTable.{one_table}
use Rattle.ps_simplex.proofs.Agreeing.{same_stands}
use Rattle.ps_simplex.specs.declared.phase.Phase.{Phase}
use Rattle.ps_simplex.specs.declared.phase.Phase.TheVariants.{One, Lower, Upper}
use Rattle.ps_simplex.specs.Rule.{SimplexTable, carried, Improves, HasLeastRatio, LeavesInPhaseTwo, Leaves}
use Rattle.ps_simplex.specs.Pivots.{linear_program, IsLawfulAt}
use Rattle.ps_simplex.specs.RuleLaws.{multipliers}
use Rattle.ps_simplex.proofs.Combination.{priced_improves}
use Rattle.ps_claims.specs.declared.claim_kind.ClaimKind.{ClaimKind}
use Rattle.ps_claims.specs.declared.claim_kind.ClaimKind.TheVariants.{Nothing}
use Rattle.ps_runs.specs.Rows.{Setting, phase_of, entries_of, rows_of, columns_of, width_of, system_of, world_cost, cost_of, table_of}
use Rattle.ps_runs.specs.Certificates.{combination_at, multiple_of, price}
use Rattle.ps_runs.specs.Subjects.{Subject, setting_of, frame_of, program_of}
use Rattle.ps_runs.specs.Runs.{Stage, IsStart, IsFeasibleAt, IsPricedAt}
use Rattle.ps_runs.proofs.Columns.{has_homes, world_at, world_cost_at}
use Rattle.ps_runs.proofs.Combination.{gain_is}
use Rattle.ps_runs.proofs.Starts.{first_table, stands_same, more_worlds, longer}
use Rattle.ps_runs.proofs.Pricing.{last_world, same_cost, world_real}

-- a basis has a table, and it names homes and worlds of the pool
pub record HasTable (s : Setting) (pool : List World) (basic : ℕ → ℕ) : Type 0 where
  pub table : ℕ → ℕ → Rational
  pub stands : IsBasisTable (rows_of s) (width_of s pool) (columns_of s pool) basic table
  pub first : (i : ℕ) → i < rows_of s → 0 < basic i
  pub last : (i : ℕ) → i < rows_of s → basic i < width_of s pool

-- ---- the start
pub start_table : (s : Subject) (g : Stage) → IsStart (frame_of s) g → HasTable (setting_of s) g.pool g.basis
start_table s g h =
    let t = first_table (setting_of s) g.basis (λ i j. unit_at i (j - 1)) (record { entries = λ i j l k. refl; basics = h.homes }) in
    subst (λ pool. HasTable (setting_of s) pool g.basis) (sym h.pool) (record { table = λ i j. unit_at i (j - 1); stands = t.stands; first = t.first; last = t.last })

-- ---- a pivot
-- the table after a pivot in row p and column q
pivoted : ℕ → ℕ → (ℕ → ℕ → Rational) → ℕ → ℕ → Rational
pivoted p q X i j = cond (eqb i p) (div (X p j) (X p q)) (sub (X i j) (mul (X i q) (div (X p j) (X p q))))

pivoted_here : (p q : ℕ) (X : ℕ → ℕ → Rational) (j : ℕ) → pivoted p q X p j ≡ div (X p j) (X p q)
unfolding pivoted
pivoted_here p q X j = elim (eqb_tells p p) [
  | inl e ↦ rw (e.0) refl
  | inr e ↦ absurd (e.1 refl)
]

pivoted_apart : (p q : ℕ) (X : ℕ → ℕ → Rational) (i j : ℕ) → i ≢ p → pivoted p q X i j ≡ sub (X i j) (mul (X i q) (div (X p j) (X p q)))
unfolding pivoted
pivoted_apart p q X i j ne = elim (eqb_tells i p) [
  | inl e ↦ absurd (ne e.1)
  | inr e ↦ rw (e.0) refl
]

is_pivoted : (n w p q : ℕ) (X : ℕ → ℕ → Rational) → Pivoted n w p q X (pivoted p q X)
is_pivoted n w p q X = record {
  row = λ j l. pivoted_here p q X j;
  others = λ i j k l ne. pivoted_apart p q X i j ne ∙ ap (λ y. sub (X i j) (mul (X i q) y)) (sym (pivoted_here p q X j));
}

-- the row that leaves is one of the table, and its entry isn't 0
record LeavesWell (f : SimplexTable) (q p : ℕ) : Type 0 where
  within : p < f.rows
  entry : f.entry p q ≢ zero_q

by_ratio : (f : SimplexTable) (q p : ℕ) → HasLeastRatio f q p → LeavesWell f q p
by_ratio f q p h = record { within = h.rising.within; entry = above_not_zero (f.entry p q) h.rising.above }

in_phase_two : (f : SimplexTable) (q p : ℕ) → LeavesInPhaseTwo f q p → LeavesWell f q p
in_phase_two f q p h = elim h [
  | inl a ↦ record { within = a.row.within; entry = a.row.entry }
  | inr b ↦ by_ratio f q p b.1
]

leaves_well : (phase : Phase) (f : SimplexTable) (q p : ℕ) → Leaves phase f q p → LeavesWell f q p
leaves_well One f q p h = by_ratio f q p h
leaves_well Lower f q p h = in_phase_two f q p h
leaves_well Upper f q p h = in_phase_two f q p h

-- the leaving row of a lawful pivot is one of the rows
pub leaving_row : (kind : ClaimKind) (s : Setting) (pool : List World) (basic : ℕ → ℕ) (cost : ℕ → Rational) (q p : ℕ)
    → IsLawfulAt (linear_program (phase_of kind) (system_of s pool) cost (width_of s pool)) basic q p → p < rows_of s
leaving_row kind s pool basic cost q p lawful =
    (leaves_well (phase_of kind) (table_of s pool basic lawful.table) q p lawful.leaves).within

pub pivot_table : (kind : ClaimKind) (s : Setting) (pool : List World) (basic new : ℕ → ℕ) (cost : ℕ → Rational) (q p : ℕ) → HasTable s pool basic
    → IsLawfulAt (linear_program (phase_of kind) (system_of s pool) cost (width_of s pool)) basic q p → Based (rows_of s) p q basic new → HasTable s pool new
pivot_table kind s pool basic new cost q p h lawful based =
    let n = rows_of s in
    let w = width_of s pool in
    let A = columns_of s pool in
    let well = leaves_well (phase_of kind) (table_of s pool basic lawful.table) q p lawful.leaves in
    let hn : n < w = omega arith in
    let hc : q < w = lawful.enters.improves.within in
    let hp : p < n = well.within in
    let same : h.table p q ≡ lawful.table p q = one_table n w A h.table lawful.table basic hn h.last h.stands lawful.belongs p q hp hc in
    let entry : h.table p q ≢ zero_q = λ e. well.entry (sym same ∙ e) in
    record {
      table = pivoted p q h.table;
      stands = stands_kept n w p q A h.table (pivoted p q h.table) basic new hn h.last hp hc entry (is_pivoted n w p q h.table) based h.stands;
      first = λ i l. elim (eqb_tells i p) [
        | inl e ↦ subst (λ k. 0 < k) (sym (ap new e.1 ∙ based.here)) lawful.enters.improves.column
        | inr e ↦ subst (λ k. 0 < k) (sym (based.others i l e.1)) (h.first i l)
      ];
      last = λ i l. elim (eqb_tells i p) [
        | inl e ↦ subst (λ k. k < w) (sym (ap new e.1 ∙ based.here)) hc
        | inr e ↦ subst (λ k. k < w) (sym (based.others i l e.1)) (h.last i l)
      ];
    }

-- ---- one world more
-- the table with a column more
widened : (s : Setting) (pool : List World) (w : World) → (ℕ → ℕ → Rational) → ℕ → ℕ → Rational
widened s pool w X i j = cond (ltb j (width_of s pool)) (X i j) (sum_to (rows_of s) (λ m. mul (X i (suc m)) (columns_of s (pool ++ w ∷ []) m (width_of s pool))))

is_widened : (s : Setting) (pool : List World) (w : World) (X : ℕ → ℕ → Rational) → Widened (rows_of s) (width_of s pool) (columns_of s (pool ++ w ∷ [])) X (widened s pool w X)
unfolding widened
is_widened s pool w X = record {
  same = λ i j l k. rw (lt-ltb j (width_of s pool) k) refl;
  made = λ i l. let e : ltb (width_of s pool) (width_of s pool) ≡ false = grind (arith, nat_tests) in rw e refl;
}

pub more_table : (s : Setting) (pool : List World) (w : World) (basic : ℕ → ℕ) → HasTable s pool basic → HasTable s (pool ++ w ∷ []) basic
more_table s pool w basic h =
    let wide = is_widened s pool w h.table in
    record {
      table = widened s pool w h.table;
      stands =
          subst (λ k. IsBasisTable (rows_of s) k (columns_of s (pool ++ w ∷ [])) basic (widened s pool w h.table)) (sym (longer s pool w))
          (stands_more (rows_of s) (width_of s pool) (columns_of s (pool ++ w ∷ [])) h.table (widened s pool w h.table) basic (omega arith) h.last wide.same wide.made
          (stands_same (rows_of s) (width_of s pool) (columns_of s pool) (columns_of s (pool ++ w ∷ [])) h.table basic h.last (has_homes s (pool ++ w ∷ [])) (λ m j l. more_worlds s pool w m j l) h.stands));
      first = h.first;
      last = λ i l. let a = h.last i l in let e = longer s pool w in omega (arith, a, e);
    }

more_same : (s : Setting) (pool : List World) (w : World) (basic : ℕ → ℕ) (h : HasTable s pool basic) (i j : ℕ) → i < rows_of s → j < width_of s pool
    → (more_table s pool w basic h).table i j ≡ h.table i j
unfolding more_table
more_same s pool w basic h i j l k = (is_widened s pool w h.table).same i j l k

-- ---- what a priced world leaves behind
module _ (kind : ClaimKind) (s : Setting) (pool : List World) (w : World) (basic : ℕ → ℕ) (h : HasTable s pool basic) (X Z : ℕ → ℕ → Rational)
    (old : Belongs (rows_of s) (width_of s pool) (columns_of s pool) basic X)
    (new : Belongs (rows_of s) (width_of s (pool ++ w ∷ [])) (columns_of s (pool ++ w ∷ [])) basic Z) where
  -- tables of the basis before and after have the same entries
  pub same_entries : (i j : ℕ) → i < rows_of s → j < width_of s pool → X i j ≡ Z i j
  same_entries i j l k =
      let more = more_table s pool w basic h in
      let e = longer s pool w in
      sym (one_table (rows_of s) (width_of s pool) (columns_of s pool) h.table X basic (omega arith) h.last h.stands old i j l k)
      ∙ sym (more_same s pool w basic h i j l k)
      ∙ one_table (rows_of s) (width_of s (pool ++ w ∷ [])) (columns_of s (pool ++ w ∷ [])) more.table Z basic (omega arith) more.last more.stands new i j l (omega (arith, k, e))

  new_stands : IsBasisTable (rows_of s) (width_of s (pool ++ w ∷ [])) (columns_of s (pool ++ w ∷ [])) basic Z
  new_stands =
      let more = more_table s pool w basic h in
      same_stands (rows_of s) (width_of s (pool ++ w ∷ [])) (columns_of s (pool ++ w ∷ [])) (columns_of s (pool ++ w ∷ [])) more.table Z basic (omega arith) more.last
      (record { same = λ i j l k. refl })
      (record { same = one_table (rows_of s) (width_of s (pool ++ w ∷ [])) (columns_of s (pool ++ w ∷ [])) more.table Z basic (omega arith) more.last more.stands new })
      more.stands

  same_multiplier : (m : ℕ) → m < rows_of s
      → multipliers (table_of s (pool ++ w ∷ []) basic Z) (cost_of kind s (pool ++ w ∷ [])) m ≡ multipliers (table_of s pool basic X) (cost_of kind s pool) m
  same_multiplier m l =
      sum_same (rows_of s) (λ i. mul (cost_of kind s (pool ++ w ∷ []) (basic i)) (Z i (suc m))) (λ i. mul (cost_of kind s pool (basic i)) (X i (suc m)))
      (λ i k z. mul (same_cost kind s pool w (basic i) (h.first i k) (h.last i k) z) (sym (same_entries i (suc m) k (omega arith)) z))

  -- the column of the world
  abbrev column : ℕ
  column = suc (rows_of s + length pool)

  world_entry : (m : ℕ) → columns_of s (pool ++ w ∷ []) m column ≡ whole (get_or (entries_of s w) m (pos 0))
  world_entry m = world_at s (pool ++ w ∷ []) m (length pool) ∙ ap (λ v. whole (get_or (entries_of s v) m (pos 0))) (last_world pool w)

  its_cost : cost_of kind s (pool ++ w ∷ []) column ≡ whole (world_cost kind s w)
  its_cost =
      world_cost_at kind s (pool ++ w ∷ []) (length pool) (omega (arith, length-append pool (w ∷ []))) ∙ ap (λ v. whole (world_cost kind s v)) (last_world pool w)

  -- it improves, where the world was priced
  pub column_improves : pos 1 ≤ℤ combination_at kind s (table_of s pool basic X) (cost_of kind s pool) w
      → Improves (table_of s (pool ++ w ∷ []) basic Z) (cost_of kind s (pool ++ w ∷ [])) column
  column_improves above =
      let f = table_of s pool basic X in
      let g = table_of s (pool ++ w ∷ []) basic Z in
      let cost = cost_of kind s pool in
      let later = cost_of kind s (pool ++ w ∷ []) in
      let priced : sum_to (rows_of s) (λ m. mul (carried g later (suc m)) (columns_of s (pool ++ w ∷ []) m column)) ≡ price s f cost w =
      sum_same (rows_of s) (λ m. mul (carried g later (suc m)) (columns_of s (pool ++ w ∷ []) m column)) (λ m. mul (multipliers f cost m) (whole (get_or (entries_of s w) m (pos 0))))
      (λ m l z. mul (same_multiplier m l z) (world_entry m z)) in
      let gain : whole (combination_at kind s f cost w) ≡ mul (whole (pos (multiple_of f cost))) (sub (sum_to (rows_of s) (λ m. mul (carried g later (suc m)) (columns_of s (pool ++ w ∷ []) m column))) (later column)) =
      gain_is kind s f cost w refl ∙ (λ z. mul (whole (pos (multiple_of f cost))) (sub (sym priced z) (sym its_cost z))) in
      priced_improves (system_of s (pool ++ w ∷ [])) (width_of s (pool ++ w ∷ [])) basic Z later column (multiple_of f cost) (combination_at kind s f cost w) new_stands
      (omega arith) (omega (arith, length-append pool (w ∷ [])))
      (world_real s (length pool))
      gain (omega (arith, ints, above))

-- after a priced world none is priced before a pivot
pub none_twice : (kind : ClaimKind) (s : Subject) (conflicts : ℕ) (g : Stage) (w v : World) → HasTable (setting_of s) g.pool g.basis → IsPricedAt (program_of kind s) conflicts g w
    → IsPricedAt (program_of kind s) conflicts (record { pool = g.pool ++ w ∷ []; basis = g.basis }) v → ⊥
none_twice kind s conflicts g w v h p q =
    q.priced.rests.resting.none (suc (rows_of (setting_of s) + length g.pool))
    (column_improves kind (setting_of s) g.pool w g.basis h p.table q.table p.priced.rests.belongs q.priced.rests.belongs p.priced.above)

-- nor does phase one end there
pub not_feasible : (s : Subject) (conflicts : ℕ) (g : Stage) (w : World) (Z : ℕ → ℕ → Rational) → HasTable (setting_of s) g.pool g.basis → IsPricedAt (program_of Nothing s) conflicts g w
    → IsFeasibleAt (frame_of s) (record { pool = g.pool ++ w ∷ []; basis = g.basis }) Z → ⊥
not_feasible s conflicts g w Z h p q =
    p.priced.rests.resting.unfinished (record {
      zero = λ i l artificial.
          same_entries Nothing (setting_of s) g.pool w g.basis h p.table Z p.priced.rests.belongs q.belongs i 0 l (omega arith) ∙ q.feasible.zero i l artificial;
    })
