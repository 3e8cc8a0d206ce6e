-- A run's table with the column of one world more.
use Rattle.std.proofs.Common.{◌≡◌, suc, ◌+◌, ◌-◌, ◌<◌, ℤ, pos, List, [], ◌∷◌, ◌++◌, map, length, get_or, sym, refl, ap, ◌∙◌, subst, arith}
use Rattle.std.proofs.lemmas.List.{length-append, map-append}
use Rattle.ps_meaning.specs.Formula.{World}
use Rattle.ps_meaning.specs.Rational.{fraction}
use Rattle.ps_meaning.specs.Order.{IsNonneg}
use Rattle.ps_simplex.specs.Table.{HasHomes}
use Rattle.ps_table.specs.Tableau.{Tableau, IsTableau, IsAdded, ExtendsSystem, IsTableFor, IsTableForHomes, HasUnitHomes, HasBasicHomes, IsColumn, rows_of as table_rows, width_of as table_width, number_in, entry_at, basic_at}
use Rattle.ps_claims.specs.declared.claim_kind.ClaimKind.{ClaimKind}
use Rattle.ps_runs.specs.Rows.{Setting, artificial_rows, home_cost, world_cost, entries_of, rows_of, width_of, columns_of}
use Rattle.ps_runs.specs.Subjects.{Subject, setting_of, frame_over, frame_of}
use Rattle.ps_runs.specs.Runs.{IsStart}
use Rattle.ps_runs.proofs.Columns.{has_homes, world_at}
use Rattle.ps_runs.proofs.Starts.{stands_same, more_worlds, unit_nonneg}
use Rattle.ps_runs.proofs.Pricing.{last_world}
use Rattle.ps_runs.specs.Rows.{homes_of}
use Rattle.ps_runs.specs.Tables.{costs_for, IsRunTable, stage_at}
use Rattle.ps_runs.proofs.Shapes.{rows_are, stands_there, stands_back, run_table, homes_count}

module _ (s : Setting) (pool : List World) (w : World) (t : Tableau) (run : IsRunTable (frame_over s) pool t) where
  abbrev more : List World
  more = pool ++ w ∷ []

  -- the columns of the longer pool stand for the table too
  stands_longer : IsTableFor (columns_of s more) t
  stands_longer =
      stands_back s pool t run.kinds run.worlds (columns_of s more)
      (stands_same (rows_of s) (width_of s pool) (columns_of s pool) (columns_of s more) (entry_at t) (basic_at t) (run_table s pool t run).last (has_homes s more)
      (λ m j l. more_worlds s pool w m j l) (stands_there s pool t run.kinds run.worlds (columns_of s pool) run.stands))

  -- and the next of them is the world's
  pub next_column : IsColumn (entries_of s w) (table_rows t) (table_width t) (columns_of s more)
  next_column m l =
      let e = rows_are s pool t run.kinds run.worlds in
      let k = run.worlds in
      let place : table_width t ≡ suc (rows_of s + length pool) = omega (arith, e, k) in
      ap (columns_of s more m) place ∙ world_at s more m (length pool) ∙ ap (λ v. fraction (get_or (entries_of s v) m (pos 0)) 1) (last_world pool w)

  pub added_world : (u : Tableau) → IsAdded (entries_of s w) t u → ExtendsSystem (entries_of s w) t u → IsTableau u → IsRunTable (frame_over s) more u
  added_world u added stands tableau = record {
    kinds = added.kinds ∙ run.kinds;
    worlds = let a = added.worlds in let b = run.worlds in let e = length-append pool (w ∷ []) in omega (arith, a, b, e);
    entries = added.added ∙ ap (λ es. es ++ entries_of s w ∷ []) run.entries ∙ sym (map-append (entries_of s) pool (w ∷ []));
    tableau = tableau;
    stands = stands (columns_of s more) next_column stands_longer;
    values = λ i l.
        let rows : length u.kinds ≡ length t.kinds = ap (λ ks. length ks) added.kinds in
        let low : i < length t.kinds = omega (arith, l, rows) in
        subst IsNonneg (sym (added.before i 0 low (omega arith))) (run.values i low);
  }

none : (es : List (List ℤ)) → length es ≡ 0 → es ≡ []
none [] h = refl
none (e ∷ es) h = absurd (omega (arith, h))

-- the table of the homes
pub new_table : (s : Setting) (t : Tableau) → t.kinds ≡ homes_of s → t.worlds ≡ 0 → HasUnitHomes (homes_of s) t → IsTableForHomes (homes_of s) t → IsTableau t → IsRunTable (frame_over s) [] t
new_table s t kinds worlds units stands tableau = record {
  kinds = kinds;
  worlds = worlds;
  entries = none t.entries (tableau.worlds ∙ worlds);
  tableau = tableau;
  stands = stands (columns_of s []) (subst (λ n. HasHomes n (columns_of s [])) (sym (homes_count s)) (has_homes s []));
  values = λ i l.
      let e = ap (λ ks. length ks) kinds in
      subst IsNonneg (sym (units i 0 (omega (arith, l, e)) (omega arith))) (unit_nonneg i (0 - 1));
}

-- it stands at the start
pub new_stage : (s : Subject) (t : Tableau) → t.kinds ≡ homes_of (setting_of s) → HasBasicHomes (homes_of (setting_of s)) t → IsStart (frame_of s) (stage_at [] t)
new_stage s t kinds basics = record {
  pool = refl;
  homes = λ i l. ap (number_in (length t.kinds)) (basics i (let e = homes_count (setting_of s) in omega (arith, l, e)));
}

pub costs_grow : (kind : ClaimKind) (s : Setting) (pool : List World) (w : World)
    → costs_for kind s (pool ++ w ∷ []) ≡ record { homes = (costs_for kind s pool).homes; worlds = (costs_for kind s pool).worlds ++ world_cost kind s w ∷ [] }
costs_grow kind s pool w = λ i. record { homes = map (home_cost kind) (artificial_rows s); worlds = map-append (world_cost kind s) pool (w ∷ []) i }
