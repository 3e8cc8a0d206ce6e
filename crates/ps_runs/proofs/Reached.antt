-- Each stage to which a run comes has one table, and a pool in which no world stands twice.
use Rattle.std.proofs.Common.{◌≡◌, ◌≢◌, ℕ, zero, suc, ◌-◌, ◌<◌, pos, ◌≤ℤ◌, None, Some, List, [], ◌∷◌, ◌++◌, length, get_or, cond, eqb, eq-eqb, refl, sym, ap, ◌∙◌, subst, arith, inl, inr}
use Rattle.std.proofs.lemmas.Bool.{ne_eqb, cases_eq}
use Rattle.std.proofs.lemmas.List.{get_or_default}
use Rattle.std.proofs.lemmas.List.Elements.{All-nil, All-append, All-cons}
use Rattle.std.proofs.lemmas.List.Quantifiers.{all_pairs_push}
use Rattle.std.proofs.lemmas.Option.{slice_get_within, get_or_from_slice_get}
use Rattle.ps_meaning.specs.Rational.{Rational, zero_q, mul, sub}
use Rattle.ps_meaning.specs.Sums.{sum_to}
use Rattle.ps_meaning.proofs.Order.{above_not_zero}
use Rattle.ps_meaning.specs.Formula.{World}
use Rattle.ps_simplex.specs.Table.{unit_at, IsBasis, IsBasisTable, IsFirst, Based, Pivoted, Widened}
use Rattle.ps_simplex.proofs.OneTable as tables
use Rattle.ps_simplex.proofs.PivotKeeps.{stands_kept}
use Rattle.ps_simplex.proofs.Columns.{stands_more}
use Rattle.ps_simplex.proofs.Agreeing.{same_stands}
use Rattle.ps_simplex.specs.declared.phase.Phase.{Phase}
use Rattle.ps_simplex.specs.declared.phase.Phase.TheVariants as phase
use Rattle.ps_simplex.specs.Rule.{SimplexTable, LeavesInPhaseTwo, Leaves}
use Rattle.ps_table.specs.declared.event.Event.{Event}
use Rattle.ps_table.specs.Worlds.{HasNumber}
use Rattle.ps_table.specs.Grids.{pivot_cell}
use Rattle.ps_table.specs.Tableau.{number_in}
use Rattle.ps_table.proofs.Columns.{pivot_own, pivot_other}
use Rattle.ps_claims.specs.declared.claim_kind.ClaimKind.{ClaimKind}
use Rattle.ps_runs.specs.Rows.{Setting, phase_of, rows_of, width_of, columns_of, IsTable}
use Rattle.ps_runs.specs.Subjects.{Subject, setting_of, atoms_of, frame_of, program_of}
use Rattle.ps_runs.specs.Runs.{Stage, IsPool, table_at, gain_at, BelongsTo, IsPricedAt, LeadsTo, still, pivoted, priced}
use Rattle.ps_runs.specs.Reached.{IsReached, started, led, HasOneTable}
use Rattle.ps_runs.proofs.Columns.{has_homes}
use Rattle.ps_runs.proofs.Starts.{first_table, stands_same, more_worlds, longer}
use Rattle.ps_runs.proofs.Pricing.{priced_apart}

-- the row that leaves is there, and has an entry other than 0 in the column that enters
record IsLeavingRow (t : SimplexTable) (q p : ℕ) : Type 0 where
  row : p < t.rows
  entry : t.entry p q ≢ zero_q

leaves_in_phase_two : (t : SimplexTable) (q p : ℕ) → LeavesInPhaseTwo t q p → IsLeavingRow t q p
leaves_in_phase_two t q p h =
    elim h [
      | inl a ↦ record { row = a.row.within; entry = a.row.entry }
      | inr b ↦ record { row = b.1.rising.within; entry = above_not_zero (t.entry p q) b.1.rising.above }
    ]

leaving_row : (ph : Phase) (t : SimplexTable) (q p : ℕ) → Leaves ph t q p → IsLeavingRow t q p
leaving_row phase.One t q p h = record { row = h.rising.within; entry = above_not_zero (t.entry p q) h.rising.above }
leaving_row phase.Lower t q p h = leaves_in_phase_two t q p h
leaving_row phase.Upper t q p h = leaves_in_phase_two t q p h

-- a table after a pivot in row p and column q
abbrev pivoted_in : ℕ → ℕ → (ℕ → ℕ → Rational) → ℕ → ℕ → Rational
pivoted_in p q X = pivot_cell X (λ i. X i q) p

is_pivoted : (n w p q : ℕ) (X : ℕ → ℕ → Rational) → Pivoted n w p q X (pivoted_in p q X)
is_pivoted n w p q X = record {
  row = λ j l. pivot_own X (λ i. X i q) p j;
  others = λ i j h l ne. pivot_other X (λ i. X i q) p i j ne ∙ ap (λ k. sub (X i j) (mul (X i q) k)) (sym (pivot_own X (λ i. X i q) p j));
}

basis_kept : (n w p q : ℕ) (x y : ℕ → ℕ) → IsBasis n w x → q < w → Based n p q x y → IsBasis n w y
basis_kept n w p q x y hb hq based i l =
    elim (cases_eq i p) [
      | inl e ↦ subst (λ k. k < w) (sym (ap y e ∙ based.here)) hq
      | inr ne ↦ subst (λ k. k < w) (sym (based.others i l ne)) (hb i l)
    ]

-- a table with a column more, made from the homes
abbrev wider : ℕ → ℕ → (ℕ → ℕ → Rational) → (ℕ → ℕ → Rational) → ℕ → ℕ → Rational
wider n w A X i j = cond (eqb j w) (sum_to n (λ m. mul (X i (suc m)) (A m w))) (X i j)

is_widened : (n w : ℕ) (A X : ℕ → ℕ → Rational) → Widened n w A X (wider n w A X)
is_widened n w A X = record {
  same = λ i j h l. ap (λ b. cond b (sum_to n (λ m. mul (X i (suc m)) (A m w))) (X i j)) (ne_eqb j w (omega arith));
  made = λ i h. ap (λ b. cond b (sum_to n (λ m. mul (X i (suc m)) (A m w))) (X i w)) (eq-eqb w w refl);
}

module _ (s : Setting) where
  -- a table of the basis over the pool, whose columns are there
  record Stands (pool : List World) (basic : ℕ → ℕ) : Type 0 where
    basis : IsBasis (rows_of s) (width_of s pool) basic
    table : ℕ → ℕ → Rational
    stands : IsBasisTable (rows_of s) (width_of s pool) (columns_of s pool) basic table

  first_stands : (pool : List World) (basic : ℕ → ℕ) → pool ≡ [] → ((i : ℕ) → i < rows_of s → basic i ≡ suc i) → Stands pool basic
  first_stands pool basic e homes =
      let first : IsFirst (rows_of s) basic (λ i j. unit_at i (j - 1)) = record { entries = λ i j h l. refl; basics = homes } in
      let t : IsTable s [] basic (λ i j. unit_at i (j - 1)) = first_table s basic (λ i j. unit_at i (j - 1)) first in
      subst (λ ws. Stands ws basic) (sym e) (record { basis = t.last; table = λ i j. unit_at i (j - 1); stands = t.stands })

  wider_stands : (pool : List World) (basic : ℕ → ℕ) (world : World) → Stands pool basic → Stands (pool ++ world ∷ []) basic
  wider_stands pool basic world h =
      let n = rows_of s in
      let w = width_of s pool in
      let A = columns_of s (pool ++ world ∷ []) in
      let wide : Widened n w A h.table (wider n w A h.table) = is_widened n w A h.table in
      record {
        basis = λ i l. let a = h.basis i l in let e = longer s pool world in omega (arith, a, e);
        table = wider n w A h.table;
        stands =
            subst (λ k. IsBasisTable n k A basic (wider n w A h.table)) (sym (longer s pool world))
            (stands_more n w A h.table (wider n w A h.table) basic (omega arith) h.basis wide.same wide.made
            (stands_same n w (columns_of s pool) A h.table basic h.basis (has_homes s (pool ++ world ∷ [])) (λ m j l. more_worlds s pool world m j l) h.stands));
      }

module _ (kind : ClaimKind) (s : Subject) (conflicts : ℕ) where
  pivot_stands : (g : Stage) (q p : ℕ) (basis : ℕ → ℕ) (X : ℕ → ℕ → Rational) → BelongsTo (frame_of s) g X → q < width_of (setting_of s) g.pool
      → IsLeavingRow (table_at (frame_of s) g X) q p → Based (rows_of (setting_of s)) p q g.basis basis → Stands (setting_of s) g.pool g.basis → Stands (setting_of s) g.pool basis
  pivot_stands g q p basis X belongs column leaving based h =
      let n = rows_of (setting_of s) in
      let w = width_of (setting_of s) g.pool in
      let A = columns_of (setting_of s) g.pool in
      let same : h.table p q ≡ X p q = tables.one_table n w A h.table X g.basis (omega arith) h.basis h.stands belongs p q leaving.row column in
      record {
        basis = basis_kept n w p q g.basis basis h.basis column based;
        table = pivoted_in p q h.table;
        stands =
            stands_kept n w p q A h.table (pivoted_in p q h.table) g.basis basis (omega arith) h.basis leaving.row column (λ e. leaving.entry (sym same ∙ e))
            (is_pivoted n w p q h.table) based h.stands;
      }

  stands_on : (a b : Stage) (events : List Event) → Stands (setting_of s) a.pool a.basis → LeadsTo (program_of kind s) conflicts a events b → Stands (setting_of s) b.pool b.basis
  stands_on a b events h (still x) = h
  stands_on a b events h (pivoted x m es enter leave basis leads is based) =
      let q = number_in (rows_of (setting_of s)) enter in
      pivot_stands m q leave basis is.lawful.table is.lawful.belongs is.lawful.enters.improves.within
      (leaving_row (phase_of kind) (table_at (frame_of s) m is.lawful.table) q leave is.lawful.leaves) based (stands_on a m es h leads)
  stands_on a b events h (priced x m es world leads is) = wider_stands (setting_of s) m.pool m.basis world (stands_on a m es h leads)

reached_stands : (s : Subject) (conflicts : ℕ) (g : Stage) → IsReached s conflicts g → Stands (setting_of s) g.pool g.basis
reached_stands s conflicts g (started x start) = first_stands (setting_of s) g.pool g.basis start.pool start.homes
reached_stands s conflicts g (led kind a b events before leads) = stands_on kind s conflicts a g events (reached_stands s conflicts a before) leads

module _ (s : Subject) (conflicts : ℕ) (g : Stage) (reached : IsReached s conflicts g) where
  pub one_table : HasOneTable s g
  one_table =
      let h = reached_stands s conflicts g reached in
      let n = rows_of (setting_of s) in
      let w = width_of (setting_of s) g.pool in
      let A = columns_of (setting_of s) g.pool in
      record {
        table = h.table;
        belongs = h.stands.belongs;
        same = λ X belongs. record { same = λ i j l k. tables.one_table n w A h.table X g.basis (omega arith) h.basis h.stands belongs i j l k };
      }

  -- a table that belongs to the basis is that of the basis
  the_table : (X : ℕ → ℕ → Rational) → BelongsTo (frame_of s) g X → IsBasisTable (rows_of (setting_of s)) (width_of (setting_of s) g.pool) (columns_of (setting_of s) g.pool) g.basis X
  the_table X belongs =
      let h = reached_stands s conflicts g reached in
      let n = rows_of (setting_of s) in
      let w = width_of (setting_of s) g.pool in
      let A = columns_of (setting_of s) g.pool in
      same_stands n w A A h.table X g.basis (omega arith) h.basis (record { same = λ i j k l. refl })
      (record { same = λ i j l k. tables.one_table n w A h.table X g.basis (omega arith) h.basis h.stands belongs i j l k }) h.stands

  priced_elsewhere : (kind : ClaimKind) (w : World) (k : ℕ) → IsPricedAt (program_of kind s) conflicts g w → k < length g.pool → get_or g.pool k [] ≡ w → ⊥
  priced_elsewhere kind w k at l e =
      priced_apart kind (setting_of s) g.pool g.basis at.table k (the_table at.table at.priced.rests.belongs) at.priced.rests.resting l
      (subst (λ v. pos 1 ≤ℤ gain_at (program_of kind s) g at.table v) (sym e) at.priced.above)

  pub priced_fresh : (kind : ClaimKind) (w : World) (number : ℕ) → IsPricedAt (program_of kind s) conflicts g w → HasNumber g.pool w number → ⊥
  priced_fresh kind w zero at e = absurd (is_some w e)
    where
      is_some : (x : World) → None ≡ Some x → ⊥
      is_some x k = cc
  priced_fresh kind w (suc k) at e = priced_elsewhere kind w k at (slice_get_within g.pool k w e) (get_or_from_slice_get g.pool k w [] e)

-- ---- pools
pool_grows : (s : Subject) (pool : List World) (w : World) → IsPool (atoms_of s) pool → length w ≡ atoms_of s → ((k : ℕ) → k < length pool → get_or pool k [] ≡ w → ⊥)
    → IsPool (atoms_of s) (pool ++ w ∷ [])
pool_grows s pool w h sized fresh = record {
  different = all_pairs_push (λ x y. x ≢ y) pool w h.different (λ k d l e. fresh k l (get_or_default pool k [] d l ∙ e));
  sized = All-append (λ v. length v ≡ atoms_of s) pool (w ∷ []) h.sized (All-cons (λ v. length v ≡ atoms_of s) w [] sized (All-nil (λ (v : World). length v ≡ atoms_of s)));
}

pool_on : (kind : ClaimKind) (s : Subject) (conflicts : ℕ) (a b : Stage) (events : List Event) → IsReached s conflicts a → IsPool (atoms_of s) a.pool
    → LeadsTo (program_of kind s) conflicts a events b → IsPool (atoms_of s) b.pool
pool_on kind s conflicts a b events reached h (still x) = h
pool_on kind s conflicts a b events reached h (pivoted x m es enter leave basis leads is based) = pool_on kind s conflicts a m es reached h leads
pool_on kind s conflicts a b events reached h (priced x m es world leads is) =
    let there : IsReached s conflicts m = led kind a m es reached leads in
    pool_grows s m.pool world (pool_on kind s conflicts a m es reached h leads) is.priced.sized (λ k l e. priced_elsewhere s conflicts m there kind world k is l e)

pub reached_pool : (s : Subject) (conflicts : ℕ) (g : Stage) → IsReached s conflicts g → IsPool (atoms_of s) g.pool
reached_pool s conflicts g (started x start) = subst (IsPool (atoms_of s)) (sym start.pool) (record { different = λ i j d l k. absurd (omega (arith, k)); sized = All-nil (λ (v : World). length v ≡ atoms_of s) })
reached_pool s conflicts g (led kind a b events before leads) = pool_on kind s conflicts a g events before (reached_pool s conflicts a before) leads
