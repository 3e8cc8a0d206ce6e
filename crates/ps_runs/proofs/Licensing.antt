-- Where a run's table stands, and that a refusal at one of its places licenses an open part.
use Rattle.std.proofs.Common.{◌≡◌, ℕ, suc, ◌-◌, ◌<◌, Bool, true, false, ℤ, List, [], length, get_or, refl, sym, subst}
use Rattle.ps_meaning.specs.Formula.{World}
use Rattle.ps_meaning.specs.Rational.{Rational}
use Rattle.ps_simplex.specs.declared.phase.Phase.{Phase}
use Rattle.ps_simplex.specs.Rule.{SimplexTable, IsDueToEnd, IsMoving, IsResting}
use Rattle.ps_table.specs.declared.col.Col.TheVariants.{Home}
use Rattle.ps_table.specs.declared.place.WideAt.{WideAt}
use Rattle.ps_table.specs.Tableau.{Tableau, rows_of as table_rows, entry_at, basic_at}
use Rattle.ps_table.specs.Pricing.{cost_at}
use Rattle.ps_table.specs.Places.{Operation, CostPlace, MultiplierPlace, WeightPlace, IsWideAt, HomePlaces}
use Rattle.ps_table.proofs.Operations.{operation_of}
use Rattle.ps_bland.specs.Rules.{simplex_of, IsDueToEndIn}
use Rattle.ps_bland.specs.Ends.{IsDueWide}
use Rattle.ps_bland.specs.DuePlaces.{DuePlace, WorldColumns, worlds_in, of_slack, of_artificial}
use Rattle.ps_bland.proofs.DuePlaces.{due_there}
use Rattle.ps_claims.specs.declared.claim_kind.ClaimKind.{ClaimKind}
use Rattle.ps_claims.specs.declared.claim_kind.ClaimKind.TheVariants.{Nothing}
use Rattle.ps_runs.specs.Rows.{phase_of, rows_of, columns_of}
use Rattle.ps_runs.specs.Subjects.{Subject, setting_of, frame_of, program_of}
use Rattle.ps_runs.specs.Runs.{Stage, table_at, worlds_at, BelongsTo, IsMovingAt, IsRestingAt, IsFeasibleAt}
use Rattle.ps_runs.specs.Tables.{costs_for, IsRunTable, stage_at}
use Rattle.ps_runs.specs.Licences.{DueAt, for_pivots, for_dual, for_model, IsModelDue, IsTooWide}
use Rattle.ps_runs.proofs.Shapes.{rows_are, same_table, stands_there}

wide_as : (P Q : Operation → Type 0) (w : WideAt) → ((o : Operation) → P o → Q o) → IsWideAt P w → IsWideAt Q w
wide_as P Q w h wide = record { at = h (operation_of w) wide.at; wide = wide.wide }

-- at rest each home is due, since no column improves
module _ (phase : Phase) (x : SimplexTable) (worlds : WorldColumns) (left : ℕ) (cost : ℕ → Rational) (rest : IsResting phase x cost)
    (i : ℕ) (low : i < x.rows) (o : Operation) (at : CostPlace x.rows cost x.basic x.entry (Home i) o) where
  due_of : (b : Bool) → x.artificial (suc i) ≡ b → DuePlace phase x worlds left cost o
  due_of true e = of_artificial i o rest.unfinished low e (λ j k. rest.none j) at
  due_of false e = of_slack i o rest.unfinished low e (λ j k. rest.none j) at

  home_due : DuePlace phase x worlds left cost o
  home_due = due_of (x.artificial (suc i)) refl

module _ (s : Subject) (pool : List World) (t : Tableau) (run : IsRunTable (frame_of s) pool t) where
  abbrev g : Stage
  g = stage_at pool t

  abbrev X : ℕ → ℕ → Rational
  X = entry_at t

  abbrev rows_same : table_rows t ≡ rows_of (setting_of s)
  rows_same = rows_are (setting_of s) pool t run.kinds run.worlds

  abbrev table_same : simplex_of t ≡ table_at (frame_of s) g X
  table_same = same_table (setting_of s) pool t run.kinds run.worlds

  abbrev worlds_same : worlds_in t ≡ worlds_at (frame_of s) g
  worlds_same = λ z. record { count = run.worlds z; entries = λ k. get_or (run.entries z) (k - 1) [] }

  pub belongs_there : BelongsTo (frame_of s) g X
  belongs_there = (stands_there (setting_of s) pool t run.kinds run.worlds (columns_of (setting_of s) pool) run.stands).belongs

  pub feasible_there : IsDueToEndIn (phase_of Nothing) t → IsFeasibleAt (frame_of s) g X
  feasible_there done = record { belongs = belongs_there; feasible = subst (λ x. IsDueToEnd (phase_of Nothing) x) table_same done }

  pub resting_there : (kind : ClaimKind) → IsResting (phase_of kind) (simplex_of t) (cost_at (costs_for kind (setting_of s) pool)) → IsRestingAt (program_of kind s) g X
  resting_there kind rest = record {
    belongs = belongs_there;
    resting = subst (λ x. IsResting (phase_of kind) x ((program_of kind s).cost g.pool)) table_same rest;
  }

  pub moving_there : (kind : ClaimKind) → IsMoving (phase_of kind) (simplex_of t) (cost_at (costs_for kind (setting_of s) pool)) → IsMovingAt (program_of kind s) g
  moving_there kind moving = record {
    table = X;
    belongs = belongs_there;
    moving = subst (λ x. IsMoving (phase_of kind) x ((program_of kind s).cost g.pool)) table_same moving;
  }

  too_wide : (kind : ClaimKind) (left : ℕ) (w : WideAt) → IsWideAt (DueAt (program_of kind s) g left X) w → IsTooWide (program_of kind s) g left w
  too_wide kind left w wide = record { table = X; belongs = belongs_there; wide = wide }

  -- what is due in `settle` is due at the stage
  due_as : (kind : ClaimKind) (left : ℕ) (w : WideAt) → IsWideAt (DuePlace (phase_of kind) (simplex_of t) (worlds_in t) left ((program_of kind s).cost g.pool)) w → IsTooWide (program_of kind s) g left w
  due_as kind left w wide =
      let by_table = subst (λ x. IsWideAt (DuePlace (phase_of kind) x (worlds_in t) left ((program_of kind s).cost g.pool)) w) table_same wide in
      let by_worlds = subst (λ ws. IsWideAt (DuePlace (phase_of kind) (table_at (frame_of s) g X) ws left ((program_of kind s).cost g.pool)) w) worlds_same by_table in
      too_wide kind left w
      (wide_as (DuePlace (phase_of kind) (table_at (frame_of s) g X) (worlds_at (frame_of s) g) left ((program_of kind s).cost g.pool)) (DueAt (program_of kind s) g left X) w for_pivots by_worlds)

  -- a refusal of `settle`
  pub settling_due : (kind : ClaimKind) (left : ℕ) (w : WideAt) → IsDueWide (phase_of kind) (costs_for kind (setting_of s) pool) t left w → IsTooWide (program_of kind s) g left w
  settling_due kind left w due = due_as kind left w (due_there (phase_of kind) (costs_for kind (setting_of s) pool) t left w due)

  -- a refusal of the multiplier of a row: at rest no column improves, so each home is due
  pub multiplier_due : (kind : ClaimKind) (left i : ℕ) (w : WideAt) → IsRestingAt (program_of kind s) g X → i < table_rows t
      → IsWideAt (HomePlaces t (costs_for kind (setting_of s) pool) i) w → IsTooWide (program_of kind s) g left w
  multiplier_due kind left i w rest l wide =
      let there : IsResting (phase_of kind) (simplex_of t) (cost_at (costs_for kind (setting_of s) pool)) = subst (λ x. IsResting (phase_of kind) x ((program_of kind s).cost g.pool)) (sym table_same) rest.resting in
      due_as kind left w
      (wide_as (HomePlaces t (costs_for kind (setting_of s) pool) i) (DuePlace (phase_of kind) (simplex_of t) (worlds_in t) left ((program_of kind s).cost g.pool)) w
      (λ o at. home_due (phase_of kind) (simplex_of t) (worlds_in t) left ((program_of kind s).cost g.pool) there i l o at) wide)

  -- a refusal of the whole multiples of the multipliers
  pub dual_due : (kind : ClaimKind) (left : ℕ) (w : WideAt) → IsRestingAt (program_of kind s) g X
      → IsWideAt (MultiplierPlace (table_rows t) (cost_at (costs_for kind (setting_of s) pool)) (basic_at t) X) w → IsTooWide (program_of kind s) g left w
  dual_due kind left w rest wide =
      too_wide kind left w
      (wide_as (MultiplierPlace (rows_of (setting_of s)) ((program_of kind s).cost g.pool) (basic_at t) X) (DueAt (program_of kind s) g left X) w (λ o at. for_dual o rest at)
      (subst (λ n. IsWideAt (MultiplierPlace n ((program_of kind s).cost g.pool) (basic_at t) X) w) rows_same wide))

  -- a refusal of a weight
  pub model_due : (kind : ClaimKind) (left : ℕ) (w : WideAt) → IsModelDue (program_of kind s) g X
      → IsWideAt (WeightPlace (table_rows t) (basic_at t) X) w → IsTooWide (program_of kind s) g left w
  model_due kind left w due wide =
      too_wide kind left w
      (wide_as (WeightPlace (rows_of (setting_of s)) (basic_at t) X) (DueAt (program_of kind s) g left X) w (λ o at. for_model o due at)
      (subst (λ n. IsWideAt (WeightPlace n (basic_at t) X) w) rows_same wide))
