-- The pivots of `settle` lead lawfully from stage to stage.
use Rattle.std.proofs.Common.{◌≡◌, ℕ, List, [], ◌∷◌, length, refl, ◌∙◌, subst, arith}
use Rattle.std.proofs.lemmas.List.{length-append}
use Rattle.ps_meaning.specs.Formula.{World}
use Rattle.ps_meaning.specs.Rational.{Rational}
use Rattle.ps_simplex.specs.Table.{Based, IsBasisTable}
use Rattle.ps_simplex.specs.declared.phase.Phase.{Phase}
use Rattle.ps_simplex.specs.Rule.{SimplexTable, IsDueToEnd, Enters, Leaves}
use Rattle.ps_table.specs.declared.col.Col.{Col}
use Rattle.ps_table.specs.declared.event.Event.{Event}
use Rattle.ps_table.specs.declared.event.Event.TheVariants.{Pivot}
use Rattle.ps_table.specs.Tableau.{Tableau, IsInside, IsTableFor, number_in, entry_at, basic_at}
use Rattle.ps_bland.specs.Rules.{simplex_of, IsLawful}
use Rattle.ps_bland.specs.Runs as bland
use Rattle.ps_claims.specs.declared.claim_kind.ClaimKind.{ClaimKind}
use Rattle.ps_runs.specs.Rows.{phase_of, rows_of, width_of, columns_of, cost_of, table_of}
use Rattle.ps_runs.specs.Subjects.{Subject, setting_of, program_of}
use Rattle.ps_runs.specs.Runs.{LeadsTo, still, pivoted, IsLawfulPivot, pivots_in}
use Rattle.ps_runs.proofs.Composed.{pivots_in-append}
use Rattle.ps_runs.specs.Rows.{homes_of}
use Rattle.ps_runs.specs.Tables.{costs_for, stage_at}
use Rattle.ps_runs.proofs.Shapes.{rows_are, same_table, stands_there}

-- what the rule says of a table and of a column's number, where they are the same
abbrev RuleAllows : Phase → SimplexTable → (ℕ → Rational) → ℕ → ℕ → Type 0
RuleAllows phase t cost q p = (IsDueToEnd phase t → ⊥) × Enters t cost q × Leaves phase t q p

module _ (kind : ClaimKind) (s : Subject) (pool : List World) (t : Tableau) (kinds : t.kinds ≡ homes_of (setting_of s)) (worlds : t.worlds ≡ length pool) where
  lawful_pivot : (enter : Col) (leave : ℕ) → IsTableFor (columns_of (setting_of s) pool) t → IsLawful (phase_of kind) (costs_for kind (setting_of s) pool) t enter leave
      → IsLawfulPivot (program_of kind s) (stage_at pool t) enter leave
  lawful_pivot enter leave stands lawful =
      let rows = rows_are (setting_of s) pool t kinds worlds in
      let there : IsBasisTable (rows_of (setting_of s)) (width_of (setting_of s) pool) (columns_of (setting_of s) pool) (basic_at t) (entry_at t) = stands_there (setting_of s) pool t kinds worlds (columns_of (setting_of s) pool) stands in
      let by_phase : RuleAllows (phase_of kind) (simplex_of t) (cost_of kind (setting_of s) pool) (number_in (length t.kinds) enter) leave =
      (lawful.unfinished, lawful.enters, lawful.leaves) in
      let by_rows : RuleAllows (phase_of kind) (simplex_of t) (cost_of kind (setting_of s) pool) (number_in (rows_of (setting_of s)) enter) leave =
      subst (λ n. RuleAllows (phase_of kind) (simplex_of t) (cost_of kind (setting_of s) pool) (number_in n enter) leave) rows by_phase in
      let by_table : RuleAllows (phase_of kind) (table_of (setting_of s) pool (basic_at t) (entry_at t)) (cost_of kind (setting_of s) pool) (number_in (rows_of (setting_of s)) enter) leave =
      subst (λ x. RuleAllows (phase_of kind) x (cost_of kind (setting_of s) pool) (number_in (rows_of (setting_of s)) enter) leave) (same_table (setting_of s) pool t kinds worlds) by_rows in
      record {
        there = subst (λ k. IsInside (rows_of (setting_of s)) k enter) worlds (subst (λ n. IsInside n t.worlds enter) rows lawful.inside);
        lawful = record { table = entry_at t; belongs = there.belongs; unfinished = by_table.0; enters = by_table.1; leaves = by_table.2 };
      }

-- a run of `settle` keeps rows, worlds and their entries, stands for what it stood for, and leads on
pub record LedBy (kind : ClaimKind) (s : Subject) (conflicts : ℕ) (pool : List World) (t : Tableau) (events : List Event) (u : Tableau) : Type 0 where
  pub kinds : u.kinds ≡ homes_of (setting_of s)
  pub worlds : u.worlds ≡ length pool
  pub entries : u.entries ≡ t.entries
  pub stands : IsTableFor (columns_of (setting_of s) pool) u
  pub leads : LeadsTo (program_of kind s) conflicts (stage_at pool t) events (stage_at pool u)
  pub counted : pivots_in events ≡ length events

pub settled_leads : (kind : ClaimKind) (s : Subject) (conflicts : ℕ) (pool : List World) (t : Tableau) (events : List Event) (u : Tableau)
    → t.kinds ≡ homes_of (setting_of s) → t.worlds ≡ length pool → IsTableFor (columns_of (setting_of s) pool) t
    → bland.Run (phase_of kind) (costs_for kind (setting_of s) pool) t events u
    → LedBy kind s conflicts pool t events u
settled_leads kind s conflicts pool t events u kinds worlds stands (bland.still x) =
    record { kinds = kinds; worlds = worlds; entries = refl; stands = stands; leads = still (stage_at pool t); counted = refl }
settled_leads kind s conflicts pool t events u kinds worlds stands (bland.more x m y es enter leave run lawful pivot on) =
    let before : LedBy kind s conflicts pool t es m = settled_leads kind s conflicts pool t es m kinds worlds stands run in
    let rows = rows_are (setting_of s) pool m before.kinds before.worlds in
    record {
      kinds = pivot.kinds ∙ before.kinds;
      worlds = pivot.worlds ∙ before.worlds;
      entries = pivot.entries ∙ before.entries;
      stands = on (columns_of (setting_of s) pool) before.stands;
      leads =
          pivoted (stage_at pool t) (stage_at pool m) es enter leave (basic_at u) before.leads
          (lawful_pivot kind s pool m before.kinds before.worlds enter leave before.stands lawful)
          (subst (λ n. Based n leave (number_in n enter) (basic_at m) (basic_at u)) rows pivot.based);
      counted =
          let e = pivots_in-append es (Pivot enter leave ∷ []) in
          let l = length-append es (Pivot enter leave ∷ []) in
          let b = before.counted in
          omega (arith, e, l, b);
    }
