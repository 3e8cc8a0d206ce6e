-- After the column of a priced world the table is moving, so `settle` makes a pivot before it ends.
use Rattle.std.proofs.Common.{◌≡◌, ℕ, suc, ◌+◌, ◌<◌, List, [], ◌∷◌, ◌++◌, length, get_or, sym, ap, ◌∙◌, subst, arith}
use Rattle.std.proofs.lemmas.List.{length-append}
use Rattle.ps_meaning.specs.Formula.{World}
use Rattle.ps_meaning.specs.Rational.{mul}
use Rattle.ps_meaning.proofs.Sums.{sum_same}
use Rattle.ps_simplex.specs.Table.{Widened}
use Rattle.ps_simplex.specs.Rule.{IsMoving}
use Rattle.ps_table.specs.declared.col.Col.TheVariants as col
use Rattle.ps_table.specs.declared.event.Event.{Event}
use Rattle.ps_table.specs.declared.event.Event.TheVariants.{Pivot}
use Rattle.ps_table.specs.Tableau.{Tableau, IsAdded, number_in, world_entry, entry_at, basic_at}
use Rattle.ps_table.specs.Pricing.{cost_at}
use Rattle.ps_bland.specs.Rules.{simplex_of}
use Rattle.ps_bland.specs.Runs as bland
use Rattle.ps_bland.proofs.Counts.{events_counted}
use Rattle.ps_claims.specs.declared.claim_kind.ClaimKind.{ClaimKind}
use Rattle.ps_runs.specs.Rows.{Setting, phase_of, entries_of, rows_of, width_of, columns_of, cost_of, table_of}
use Rattle.ps_runs.specs.Subjects.{Subject, setting_of, frame_of, program_of}
use Rattle.ps_runs.specs.Runs.{IsPricedBy}
use Rattle.ps_runs.proofs.Pricing.{priced_moves}
use Rattle.ps_runs.specs.Tables.{costs_for, IsRunTable, stage_at}
use Rattle.ps_runs.proofs.Shapes.{rows_are, width_is, same_table, run_table}
use Rattle.ps_runs.proofs.Adding.{next_column}

-- pivots that don't leave the table as it was are some
some_pivots : (kind : ClaimKind) (s : Setting) (pool : List World) (u v : Tableau) (events : List Event) → bland.Run (phase_of kind) (costs_for kind s pool) u events v
    → IsMoving (phase_of kind) (simplex_of u) (cost_at (costs_for kind s pool)) → (IsMoving (phase_of kind) (simplex_of v) (cost_at (costs_for kind s pool)) → ⊥)
    → 0 < length events
some_pivots kind s pool u v events (bland.still x) moving ended = absurd (ended moving)
some_pivots kind s pool u v events (bland.more x m y es enter leave run lawful pivot on) moving ended = let l = length-append es (Pivot enter leave ∷ []) in omega (arith, l)

module _ (kind : ClaimKind) (s : Subject) (conflicts : ℕ) (pool : List World) (t u : Tableau) (w : World) (run : IsRunTable (frame_of s) pool t)
    (is : IsPricedBy (program_of kind s) conflicts (stage_at pool t) (entry_at t) w) (added : IsAdded (entries_of (setting_of s) w) t u) where
  abbrev more : List World
  more = pool ++ w ∷ []

  widened : Widened (rows_of (setting_of s)) (width_of (setting_of s) pool) (columns_of (setting_of s) more) (entry_at t) (entry_at u)
  widened =
      let rows = rows_are (setting_of s) pool t run.kinds run.worlds in
      let width = width_is (setting_of s) pool t run.kinds run.worlds in
      let next = next_column (setting_of s) pool w t run in
      subst (λ n. Widened n (width_of (setting_of s) pool) (columns_of (setting_of s) more) (entry_at t) (entry_at u)) rows
      (subst (λ k. Widened (length t.kinds) k (columns_of (setting_of s) more) (entry_at t) (entry_at u)) width
      (record {
        same = λ i j l h. added.before i j l h;
        made = λ i l.
            added.here i l
            ∙ sum_same (length t.kinds) (λ m. mul (entry_at t i (suc m)) (world_entry (entries_of (setting_of s) w) m))
            (λ m. mul (entry_at t i (suc m)) (columns_of (setting_of s) more m (suc (length t.kinds + t.worlds)))) (λ m h. ap (mul (entry_at t i (suc m))) (sym (next m h)));
      }))

  same_basis : basic_at t ≡ basic_at u
  same_basis = λ j i. number_in (length (sym added.kinds j)) (get_or (sym added.basic j) i (col.Home 0))

  pub moving_after : IsMoving (phase_of kind) (simplex_of u) (cost_at (costs_for kind (setting_of s) more))
  moving_after =
      let kinds = added.kinds ∙ run.kinds in
      let worlds : u.worlds ≡ length more = let a = added.worlds in let b = run.worlds in let e = length-append pool (w ∷ []) in omega (arith, a, b, e) in
      let there : IsMoving (phase_of kind) (table_of (setting_of s) more (basic_at t) (entry_at u)) (cost_of kind (setting_of s) more) =
      priced_moves kind (setting_of s) pool w (basic_at t) (entry_at t) (entry_at u) (run_table (setting_of s) pool t run) widened is.rests.resting is.above in
      let by_basis : IsMoving (phase_of kind) (table_of (setting_of s) more (basic_at u) (entry_at u)) (cost_of kind (setting_of s) more) =
      subst (λ b. IsMoving (phase_of kind) (table_of (setting_of s) more b (entry_at u)) (cost_of kind (setting_of s) more)) same_basis there in
      subst (λ x. IsMoving (phase_of kind) x (cost_of kind (setting_of s) more)) (sym (same_table (setting_of s) more u kinds worlds)) by_basis

  -- an end that isn't moving comes after a pivot
  pub fewer_left : (v : Tableau) (trace longer : List Event) (left now : ℕ)
      → bland.Ran (phase_of kind) (costs_for kind (setting_of s) more) u v trace longer → now + length longer ≡ left + length trace
      → (IsMoving (phase_of kind) (simplex_of v) (cost_at (costs_for kind (setting_of s) more)) → ⊥) → now < left
  fewer_left v trace longer left now ran counted ended =
      let some = some_pivots kind (setting_of s) more u v ran.events ran.run moving_after ended in
      let count = events_counted trace longer ran.events left now ran.appended counted in
      omega (arith, some, count)
