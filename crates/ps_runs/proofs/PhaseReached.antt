-- Where lawful events lead, and how few pivots are among them.
use Rattle.std.specs.Prelude.{get_or}
use Rattle.std.proofs.Common.{◌≡◌, ◌≢◌, ℕ, suc, ◌+◌, ◌^◌, ◌<◌, ◌≤◌, pos, ◌≤ℤ◌, cond, eqb, eq-eqb, List, [], ◌∷◌, ◌++◌, length, sym, refl, ap, ◌∙◌, subst, arith, inl, inr}
use Rattle.std.proofs.lemmas.Bool.{ne_eqb, cases_eq}
use Rattle.std.proofs.lemmas.List.{length-append, get_or_default}
use Rattle.std.proofs.lemmas.List.Elements.{All-nil, All-append, All-cons}
use Rattle.std.proofs.lemmas.List.Quantifiers.{all_pairs_push}
use Rattle.ps_meaning.specs.Rational.{Rational, mul}
use Rattle.ps_meaning.specs.Order.{IsNonneg}
use Rattle.ps_meaning.specs.Sums.{sum_to}
use Rattle.ps_meaning.specs.Formula.{World}
use Rattle.ps_simplex.specs.Table.{Belongs, Widened}
use Rattle.ps_simplex.proofs.Agreeing.{same_stands}
use Rattle.ps_simplex.proofs.OneTable as tables
use Rattle.ps_simplex.specs.declared.phase.Phase.{Phase}
use Rattle.ps_simplex.specs.declared.phase.Phase.TheVariants.{One, Lower, Upper}
use Rattle.ps_simplex.specs.Pivots.{linear_program, System, Pivot, Pivots}
use Rattle.ps_simplex.specs.Pivots.Pivots.{still as no_moves, more as one_move}
use Rattle.ps_table.specs.declared.event.Event.{Event}
use Rattle.ps_table.specs.declared.event.Event.TheVariants as event
use Rattle.ps_table.specs.Tableau.{number_in}
use Rattle.ps_simplex.specs.Count.{choose}
use Rattle.ps_simplex.specs.Cycle.{HasZeroArtificials}
use Rattle.ps_simplex.proofs.Few.{few_pivots}
use Rattle.ps_simplex.proofs.Walks.{arrives}
use Rattle.ps_simplex.proofs.Ways.{choose_next, more_things}
use Rattle.ps_simplex.proofs.Worlds.{few_worlds}
use Rattle.ps_claims.specs.declared.claim_kind.ClaimKind.{ClaimKind}
use Rattle.ps_runs.specs.Rows.{Setting, rows_of, width_of, columns_of, system_of, table_of, cost_of, phase_of, IsTable}
use Rattle.ps_runs.specs.Subjects.{Subject, setting_of, atoms_of, program_of}
use Rattle.ps_runs.specs.Runs.{Stage, IsPool, IsPricedAt, gain_at, LeadsTo, still, pivoted, priced, pivots_in}
use Rattle.ps_runs.proofs.Composed.{pivots_in-append}
use Rattle.ps_runs.proofs.Pricing.{priced_is_new}
use Rattle.ps_runs.proofs.Starts.{added_table}

-- a table of a pool's worlds at which a phase may start
pub record IsTableOf (phase : Phase) (s : Setting) (pool : List World) (basic : ℕ → ℕ) (X : ℕ → ℕ → Rational) : Type 0 where
  pub there : IsTable s pool basic X
  pub zeros : HasZeroArtificials phase (table_of s pool basic X)

-- ---- pivots between pricings
-- the right side is never basic
above_kept : (phase : Phase) (s : System) (cost : ℕ → Rational) (w : ℕ) (a b : ℕ → ℕ) (pivots : List Pivot) → Pivots (linear_program phase s cost w) a pivots b
    → ((i : ℕ) → i < s.rows → 0 < a i) → (i : ℕ) → i < s.rows → 0 < b i
above_kept phase s cost w a b pivots (no_moves x) above i l = above i l
above_kept phase s cost w a b pivots (one_move x m c ps q p first at based) above i l =
    elim (cases_eq i p) [
      | inl e ↦ subst (λ k. 0 < k) (sym (ap c e ∙ based.here)) at.enters.improves.column
      | inr ne ↦ subst (λ k. 0 < k) (sym (based.others i l ne)) (above_kept phase s cost w x m ps first above i l)
    ]

-- the table to which pivots lead
pub record Led (phase : Phase) (s : Setting) (pool : List World) (basic : ℕ → ℕ) : Type 0 where
  pub table : ℕ → ℕ → Rational
  pub is : IsTableOf phase s pool basic table

led : (phase : Phase) (s : Setting) (pool : List World) (cost : ℕ → Rational) (a b : ℕ → ℕ) (X : ℕ → ℕ → Rational) (pivots : List Pivot) → IsTableOf phase s pool a X
    → Pivots (linear_program phase (system_of s pool) cost (width_of s pool)) a pivots b → Led phase s pool b
led phase s pool cost a b X pivots start there =
    let here = arrives phase (system_of s pool) cost (width_of s pool) (omega arith) a b X pivots
    (record { basis = start.there.last; stands = start.there.stands; start = record { values = start.there.values; artificials = start.zeros } }) there in
    record {
      table = here.table;
      is = record {
        there = record {
          stands = here.sound.stands;
          first = above_kept phase (system_of s pool) cost (width_of s pool) a b pivots there start.there.first;
          last = here.sound.basis;
          values = here.sound.start.values;
        };
        zeros = here.sound.start.artificials;
      };
    }

zeros_same : (phase : Phase) (s : Setting) (pool more : List World) (basic : ℕ → ℕ) (X Y : ℕ → ℕ → Rational) → ((i : ℕ) → i < rows_of s → Y i 0 ≡ X i 0)
    → HasZeroArtificials phase (table_of s pool basic X) → HasZeroArtificials phase (table_of s more basic Y)
zeros_same One s pool more basic X Y same zeros = tt
zeros_same Lower s pool more basic X Y same zeros = record { zero = λ i l a. same i l ∙ zeros.zero i l a }
zeros_same Upper s pool more basic X Y same zeros = record { zero = λ i l a. same i l ∙ zeros.zero i l a }

-- each table that belongs to the basis is the one
pub the_table : (phase : Phase) (s : Setting) (pool : List World) (basic : ℕ → ℕ) (X Y : ℕ → ℕ → Rational) → IsTableOf phase s pool basic X
    → Belongs (rows_of s) (width_of s pool) (columns_of s pool) basic Y → IsTableOf phase s pool basic Y
the_table phase s pool basic X Y is belongs =
    let same : (i j : ℕ) → i < rows_of s → j < width_of s pool → X i j ≡ Y i j =
    tables.one_table (rows_of s) (width_of s pool) (columns_of s pool) X Y basic (omega arith) is.there.last is.there.stands belongs in
    record {
      there = record {
        stands = same_stands (rows_of s) (width_of s pool) (columns_of s pool) (columns_of s pool) X Y basic (omega arith) is.there.last (record { same = λ i j k l. refl }) (record { same = same }) is.there.stands;
        first = is.there.first;
        last = is.there.last;
        values = λ i l. subst IsNonneg (same i 0 l (omega arith)) (is.there.values i l);
      };
      zeros = zeros_same phase s pool pool basic X Y (λ i l. sym (same i 0 l (omega arith))) is.zeros;
    }

-- ---- a world more
abbrev widened : ℕ → ℕ → (ℕ → ℕ → Rational) → (ℕ → ℕ → Rational) → ℕ → ℕ → Rational
widened n w A X i j = cond (eqb j w) (sum_to n (λ m. mul (X i (suc m)) (A m w))) (X i j)

is_widened : (n w : ℕ) (A X : ℕ → ℕ → Rational) → Widened n w A X (widened n w A X)
is_widened n w A X = record {
  same = λ i j h l. ap (λ b. cond b (sum_to n (λ m. mul (X i (suc m)) (A m w))) (X i j)) (ne_eqb j w (λ e. absurd (omega (arith, l, e))));
  made = λ i h. ap (λ b. cond b (sum_to n (λ m. mul (X i (suc m)) (A m w))) (X i w)) (eq-eqb w w refl);
}

pub one_world_more : (phase : Phase) (s : Setting) (pool : List World) (world : World) (basic : ℕ → ℕ) (X : ℕ → ℕ → Rational) → IsTableOf phase s pool basic X
    → IsTableOf phase s (pool ++ world ∷ []) basic (widened (rows_of s) (width_of s pool) (columns_of s (pool ++ world ∷ [])) X)
one_world_more phase s pool world basic X is =
    let wide = is_widened (rows_of s) (width_of s pool) (columns_of s (pool ++ world ∷ [])) X in
    let Z = widened (rows_of s) (width_of s pool) (columns_of s (pool ++ world ∷ [])) X in
    record {
      there = added_table s pool world basic X Z is.there wide;
      zeros = zeros_same phase s pool (pool ++ world ∷ []) basic X Z (λ i l. wide.same i 0 l (omega arith)) is.zeros;
    }

-- ---- events
-- where a phase stands, after so many pivots: the basis and the table behind its last pricing, and the pivots since
pub record Reached (kind : ClaimKind) (s : Subject) (b : Stage) (made : ℕ) : Type 0 where
  pub pool_kept : IsPool (atoms_of s) b.pool
  pub start : ℕ → ℕ
  pub table : ℕ → ℕ → Rational
  pub is : IsTableOf (phase_of kind) (setting_of s) b.pool start table
  pub before : ℕ
  pub few : before ≤ choose (rows_of (setting_of s) + length b.pool) (suc (rows_of (setting_of s)))
  pub pivots : List Pivot
  pub there : Pivots (linear_program (phase_of kind) (system_of (setting_of s) b.pool) (cost_of kind (setting_of s) b.pool) (width_of (setting_of s) b.pool)) start pivots b.basis
  pub counted : before + length pivots ≡ made

module _ (kind : ClaimKind) (s : Subject) where
  abbrev S : Setting
  S = setting_of s

  abbrev n : ℕ
  n = rows_of (setting_of s)

  -- a phase begins
  pub begins : (b : Stage) (X : ℕ → ℕ → Rational) → IsPool (atoms_of s) b.pool → IsTableOf (phase_of kind) (setting_of s) b.pool b.basis X → Reached kind s b 0
  begins b X pool is = record {
    pool_kept = pool;
    start = b.basis;
    table = X;
    is = is;
    before = 0;
    few = omega arith;
    pivots = [];
    there = no_moves b.basis;
    counted = omega arith;
  }

  pub stands_at : (b : Stage) (made : ℕ) → Reached kind s b made → Led (phase_of kind) (setting_of s) b.pool b.basis
  stands_at b made r = led (phase_of kind) S b.pool (cost_of kind S b.pool) r.start b.basis r.table r.pivots r.is r.there

  -- so few pivots were made, with this pool
  few_here : (b : Stage) (made : ℕ) → Reached kind s b made → made < choose (suc (n + length b.pool)) (suc n)
  few_here b made r =
      let many = few_pivots (phase_of kind) (system_of S b.pool) (cost_of kind S b.pool) (n + length b.pool) r.start b.basis r.table r.pivots (omega arith) r.is.there.last r.is.there.first r.is.there.stands
      (record { values = r.is.there.values; artificials = r.is.zeros }) r.there in
      let next = choose_next (n + length b.pool) n in
      let before = r.few in
      let counted = r.counted in
      omega (arith, many, next, before, counted)

  pub few_made : (b : Stage) (made : ℕ) → Reached kind s b made → made < choose (rows_of (setting_of s) + 2 ^ atoms_of s + 1) (rows_of (setting_of s) + 1)
  few_made b made r =
      let few = few_here b made r in
      let worlds = few_worlds (atoms_of s) b.pool r.pool_kept.different r.pool_kept.sized in
      let more = more_things (suc (n + length b.pool)) (suc (n + 2 ^ atoms_of s)) (suc n) (omega (arith, worlds)) in
      let things : suc (n + 2 ^ atoms_of s) ≡ n + 2 ^ atoms_of s + 1 = omega arith in
      let chosen : suc n ≡ n + 1 = omega arith in
      let same : choose (suc (n + 2 ^ atoms_of s)) (suc n) ≡ choose (n + 2 ^ atoms_of s + 1) (n + 1) = λ z. choose (things z) (chosen z) in
      omega (arith, few, more, same)

  one_pivot_more : (b : Stage) (made q p : ℕ) (basis : ℕ → ℕ) (r : Reached kind s b made)
      → Pivots (linear_program (phase_of kind) (system_of (setting_of s) b.pool) (cost_of kind (setting_of s) b.pool) (width_of (setting_of s) b.pool)) r.start (r.pivots ++ record { enter = q; leave = p } ∷ []) basis
      → Reached kind s (record { pool = b.pool; basis = basis }) (suc made)
  one_pivot_more b made q p basis r there = record {
    pool_kept = r.pool_kept;
    start = r.start;
    table = r.table;
    is = r.is;
    before = r.before;
    few = r.few;
    pivots = r.pivots ++ record { enter = q; leave = p } ∷ [];
    there = there;
    counted = let e = length-append r.pivots (record { enter = q; leave = p } ∷ []) in let c = r.counted in omega (arith, e, c);
  }

  one_priced_more : (conflicts : ℕ) (b : Stage) (made : ℕ) (world : World) → Reached kind s b made → IsPricedAt (program_of kind s) conflicts b world
      → Reached kind s (record { pool = b.pool ++ world ∷ []; basis = b.basis }) made
  one_priced_more conflicts b made world r at =
      let here = stands_at b made r in
      let is = the_table (phase_of kind) S b.pool b.basis here.table at.table here.is at.priced.rests.belongs in
      let more = length-append b.pool (world ∷ []) in
      let fresh : (k : ℕ) → k < length b.pool → get_or b.pool k [] ≢ world =
      λ k l e. priced_is_new kind S b.pool b.basis at.table k is.there at.priced.rests.resting l (subst (λ v. pos 1 ≤ℤ gain_at (program_of kind s) b at.table v) (sym e) at.priced.above) in
      record {
        pool_kept = record {
          different = all_pairs_push (λ x y. x ≢ y) b.pool world r.pool_kept.different (λ k d l e. fresh k l (get_or_default b.pool k [] d l ∙ e));
          sized = All-append (λ v. length v ≡ atoms_of s) b.pool (world ∷ []) r.pool_kept.sized (All-cons (λ v. length v ≡ atoms_of s) world [] at.priced.sized (All-nil (λ (v : World). length v ≡ atoms_of s)));
        };
        start = b.basis;
        table = widened n (width_of S b.pool) (columns_of S (b.pool ++ world ∷ [])) at.table;
        is = one_world_more (phase_of kind) S b.pool world b.basis at.table is;
        before = made;
        few =
            let few = few_here b made r in
            let up : n + length (b.pool ++ world ∷ []) ≡ suc (n + length b.pool) = omega (arith, more) in
            let same = ap (λ z. choose z (suc n)) up in
            omega (arith, few, same);
        pivots = [];
        there = no_moves b.basis;
        counted = omega arith;
      }

  -- lawful events lead on
  pub leads : (conflicts : ℕ) (a b : Stage) (events : List Event) → Reached kind s a 0 → LeadsTo (program_of kind s) conflicts a events b → Reached kind s b (pivots_in events)
  leads conflicts a b events r (still x) = r
  leads conflicts a b events r (pivoted x m es enter leave basis before lawful based) =
      let here = leads conflicts a m es r before in
      let e : suc (pivots_in es) ≡ pivots_in (es ++ event.Pivot enter leave ∷ []) = let f = pivots_in-append es (event.Pivot enter leave ∷ []) in omega (arith, f) in
      subst (Reached kind s (record { pool = m.pool; basis = basis })) e
      (one_pivot_more m (pivots_in es) (number_in n enter) leave basis here (one_move here.start m.basis basis here.pivots (number_in n enter) leave here.there lawful.lawful based))
  leads conflicts a b events r (priced x m es world before at) =
      let here = leads conflicts a m es r before in
      let e : pivots_in es ≡ pivots_in (es ++ event.Priced world ∷ []) = let f = pivots_in-append es (event.Priced world ∷ []) in omega (arith, f) in
      subst (Reached kind s (record { pool = m.pool ++ world ∷ []; basis = m.basis })) e (one_priced_more conflicts m (pivots_in es) world here at)
