-- What a side answers is lawful and valid.
use Rattle.std.proofs.Common.{◌≡◌, ◌≢◌, ℕ, ℤ, pos, ◌≤ℤ◌, Some, List, length, refl, sym, ap, ◌∙◌, subst, arith, false}
use Rattle.std.proofs.lemmas.Int.{ints}
use Rattle.std.proofs.lemmas.List.{length-map}
use Rattle.ps_meaning.specs.Rational.{Rational}
use Rattle.ps_table.specs.Tableau.{entry_at}
use Rattle.ps_problem.specs.declared.query.Query as stored
use Rattle.ps_problem.specs.Problems.{Parts, AreParts}
use Rattle.ps_problem.specs.Rows.{rows_in, row_of}
use Rattle.ps_simplex.specs.Rule.{IsFeasible, IsResting}
use Rattle.ps_answer.specs.declared.answer.Cause.{Cause}
use Rattle.ps_answer.specs.declared.answer.Cause.TheVariants.{Pivots, Conflicts, Wide}
use Rattle.ps_answer.specs.declared.answer.Dual.{Dual}
use Rattle.ps_answer.specs.declared.answer.Model.{Model}
use Rattle.ps_answer.specs.declared.answer.SideAnswer.{SideAnswer}
use Rattle.ps_answer.specs.declared.answer.SideAnswer.TheVariants as side
use Rattle.ps_claims.specs.declared.claim_kind.ClaimKind.{ClaimKind}
use Rattle.ps_claims.specs.declared.claim_kind.ClaimKind.TheVariants.{Nothing, Lower, Upper}
use Rattle.ps_claims.specs.Duals as claims
use Rattle.ps_claims.specs.Duals.{HasValueHead}
use Rattle.ps_claims.specs.Validity.{IsRefuted, ShowsTight}
use Rattle.ps_runs.specs.Programs.{RefutesGain}
use Rattle.ps_runs.specs.Rows.{phase_of, IsTable}
use Rattle.ps_runs.specs.Certificates.{HaveSameNumbers, table_model}
use Rattle.ps_runs.specs.Subjects.{Subject, subject_of, setting_of, given_in, both_in, atoms_of, frame_of, program_of}
use Rattle.ps_runs.specs.Runs.{IsPool, Stage, table_at, dual_at, AreAtMost, IsRestingAt}
use Rattle.ps_runs.proofs.Combination.{multiple_positive, signed-length}
use Rattle.ps_runs.proofs.Certified.{refuted_at_rest}
use Rattle.ps_runs.proofs.Tight.{tight_at_end}
use Rattle.ps_claims.specs.Certificates.{dual_of}
use Rattle.ps_runs.specs.Licences.{IsModelDue}
use Rattle.ps_runs.specs.Verdicts.{IsSideAt}
use Rattle.ps_runs.proofs.Shapes.{run_table}
use Rattle.ps_runs.proofs.Ending.{side_ended}
use Rattle.ps_generation.specs.Models.{IsTableModel}
use Rattle.ps_runs.specs.declared.state.State.{State}
use Rattle.ps_generation.specs.Phases.{LimitedSubject, IsSpread, stage_of, HasCome, IsDualEnd, IsOpenEnd, IsLeft}
use Rattle.ps_generation.specs.Runs.{IsSideAnswerOf, IsValidSide, IsWholeSide, kept_side}
use Rattle.ps_generation.specs.States.{run_of, IsBoundOf}
use Rattle.ps_generation.proofs.Models as models
use Rattle.ps_generation.proofs.Ways.{own_way}

-- at rest with no world above 0 a side's model is due
due_at_rest : (kind : ClaimKind) (s : Subject) (g : Stage) (X : ℕ → ℕ → Rational) → kind ≢ Nothing → IsRestingAt (program_of kind s) g X → AreAtMost (program_of kind s) g X (pos 0) → IsModelDue (program_of kind s) g X
due_at_rest Nothing s g X apart rests none = absurd (apart refl)
due_at_rest Lower s g X apart rests none = (rests, none)
due_at_rest Upper s g X apart rests none = (rests, none)

-- the top of a side's dual is at least 1
top_above : (kind : ClaimKind) (s : Subject) (g : Stage) (X : ℕ → ℕ → Rational) → kind ≢ Nothing → pos 1 ≤ℤ (dual_at (program_of kind s) g X).top
top_above Nothing s g X apart = absurd (apart refl)
top_above Lower s g X apart = let h = multiple_positive (table_at (frame_of s) g X) ((program_of Lower s).cost g.pool) in omega (arith, ints, h)
top_above Upper s g X apart = let h = multiple_positive (table_at (frame_of s) g X) ((program_of Upper s).cost g.pool) in omega (arith, ints, h)

top_at_least : (kind : ClaimKind) (s : Subject) (g : Stage) (X : ℕ → ℕ → Rational) (d : Dual) → kind ≢ Nothing → IsDualEnd (program_of kind s) g X d → pos 1 ≤ℤ d.top
top_at_least kind s g X d apart end = subst (λ z. pos 1 ≤ℤ z) (sym end.numbers.top) (top_above kind s g X apart)

-- and so is that of the dual spread over all bounds
pub spread_top : (kind : ClaimKind) (r : LimitedSubject) (g : Stage) (X : ℕ → ℕ → Rational) (e d : Dual) → kind ≢ Nothing → IsDualEnd (program_of kind r.subject) g X e → IsSpread r e d → pos 1 ≤ℤ d.top
spread_top kind r g X e d apart end spread = subst (λ (x : Dual). pos 1 ≤ℤ x.top) (sym spread.numbers) (top_at_least kind r.subject g X e apart end)

-- what makes a value tight
record ShowsAtEnd (kind : ClaimKind) (g : Stage) (X : ℕ → ℕ → Rational) (value : Rational) (d : claims.Dual) (s : Subject) : Type 0 where
  parts : AreParts s.parts
  numbers : HaveSameNumbers d (dual_at (program_of kind s) g X)
  head : HasValueHead value d
  table : IsTable (setting_of s) g.pool g.basis X
  feasible : IsFeasible (table_at (frame_of s) g X)
  pooled : IsPool (atoms_of s) g.pool
  resting : IsResting (phase_of kind) (table_at (frame_of s) g X) ((program_of kind s).cost g.pool)
  steps : RefutesGain (program_of kind s) (dual_at (program_of kind s) g X) d.steps

tight_so : (kind : ClaimKind) (p : Parts) (q : stored.Query) (g : Stage) (X : ℕ → ℕ → Rational) (value : Rational) (d : claims.Dual) → kind ≢ Nothing
    → ShowsAtEnd kind g X value d (subject_of p q) → ShowsTight p kind q value (table_model (table_at (frame_of (subject_of p q)) g X) g.pool) d
tight_so kind p q g X value d apart h = tight_at_end kind p q g X value d apart h.parts h.numbers h.head h.table h.feasible h.pooled h.resting h.steps

module _ (kind : ClaimKind) (r : LimitedSubject) (old new : State) (apart : kind ≢ Nothing) where
  answered : (come : HasCome kind r old new) (answer : SideAnswer) → IsSideAt (program_of kind r.subject) r.limits (stage_of new) new.left (kept_side r.flags answer)
      → ((q : stored.Query) → r.subject.query ≡ Some q → IsValidSide kind r.subject.parts q (kept_side r.flags answer)) → IsWholeSide kind r answer
      → IsSideAnswerOf kind (run_of r old false) (run_of r new false) answer
  answered come answer due valid whole = record {
    events = come.way.events;
    traced = record { over = refl; appended = come.way.appended };
    lawful =
        side_ended (program_of kind r.subject) r.limits (stage_of old) old.left new.pool new.table come.way.events new.left
        (own_way kind r.subject r.limits.conflicts (stage_of old) old.left old.trace new.pool new.table new.trace new.left come.way) (kept_side r.flags answer) due;
    valid = valid;
    whole = whole;
  }

  -- at rest, where no world's combination is above 0
  module _ (d : Dual) (come : HasCome kind r old new) (end : IsDualEnd (program_of kind r.subject) (stage_of new) (entry_at new.table) d) (left : IsLeft kind r.subject old new) (are : AreParts r.subject.parts) where
    shown : (value : Rational) → HasValueHead value (dual_of d) → ShowsAtEnd kind (stage_of new) (entry_at new.table) value (dual_of d) r.subject
    shown value head = record {
      parts = are;
      numbers = end.numbers;
      head = head;
      table = run_table (setting_of r.subject) new.pool new.table left.table;
      feasible = (models.feasible_at r.subject new.pool new.table left.table (left.feasible apart)).feasible;
      pooled = left.pool_kept;
      resting = end.rests.resting;
      steps = end.steps;
    }

    tight : (value : Rational) → HasValueHead value (dual_of d) → (q : stored.Query) → r.subject.query ≡ Some q
        → ShowsTight r.subject.parts kind q value (table_model (table_at (frame_of r.subject) (stage_of new) (entry_at new.table)) new.pool) (dual_of d)
    tight value head q is =
        let same : r.subject ≡ subject_of r.subject.parts q = λ i. record { parts = r.subject.parts; query = is i } in
        subst (λ s. ShowsTight r.subject.parts kind q value (table_model (table_at (frame_of s) (stage_of new) (entry_at new.table)) new.pool) (dual_of d)) (sym same)
        (tight_so kind r.subject.parts q (stage_of new) (entry_at new.table) value (dual_of d) apart
        (subst (ShowsAtEnd kind (stage_of new) (entry_at new.table) value (dual_of d)) same (shown value head)))

    -- the value with its dual spread over all bounds
    module _ (f : Dual) (spread : IsSpread r d f) where
      due : (value : Rational) (m : Model) → IsTableModel new.table new.pool m → HasValueHead value (dual_of d)
          → IsSideAt (program_of kind r.subject) r.limits (stage_of new) new.left (side.Bound value m d)
      due value m is head = (
        models.model_at r.subject new.pool new.table left.table m (models.feasible_at r.subject new.pool new.table left.table (left.feasible apart)) is,
        record { table = entry_at new.table; rests = end.rests; none = end.none; numbers = end.numbers },
        head,
      )

      refuted : IsRefuted r.subject.parts kind (given_in r.subject.query) (both_in r.subject.query) (dual_of d)
      refuted = refuted_at_rest kind r.subject (stage_of new) (entry_at new.table) (dual_of d) end.numbers end.rests.resting end.steps

      bound : (value : Rational) (m : Model) → IsTableModel new.table new.pool m → HasValueHead value (dual_of d) → IsSideAnswerOf kind (run_of r old false) (run_of r new false) (side.Bound value m f)
      bound value m is head =
          answered come (side.Bound value m f)
          (subst (λ (x : Dual). IsSideAt (program_of kind r.subject) r.limits (stage_of new) new.left (side.Bound value m x)) (sym spread.numbers) (due value m is head))
          (λ q e. subst (λ (x : Dual). IsValidSide kind r.subject.parts q (side.Bound value m x)) (sym spread.numbers)
          (subst (λ n. ShowsTight r.subject.parts kind q value n (dual_of d)) (sym (models.is_table_model r.subject new.pool new.table left.table m is)) (tight value head q e)))
          (record { others = spread.others; refuted = spread.refuted kind refuted })

      same_head : (value : Rational) → HasValueHead value (dual_of f) → HasValueHead value (dual_of d)
      same_head value h = subst (λ (x : Dual). HasValueHead value (dual_of x)) spread.numbers (record { top = h.top; ratio = h.ratio })

      pub side_bound : (answer : SideAnswer) → IsBoundOf new f answer → IsSideAnswerOf kind (run_of r old false) (run_of r new false) answer
      side_bound (side.Bound value m shown_by) h =
          subst (λ e. IsSideAnswerOf kind (run_of r old false) (run_of r new false) (side.Bound value m e)) (sym h.1) (bound value m h.0 (same_head value h.2))
      side_bound (side.Open (Wide at)) wide =
          answered come (side.Open (Wide at))
          (models.model_wide r.subject new.pool new.table left.table kind new.left at (due_at_rest kind r.subject (stage_of new) (entry_at new.table) apart end.rests end.none) wide) (λ q e. tt) tt
      side_bound (side.Open (Pivots limit)) none = absurd none
      side_bound (side.Open (Conflicts limit goal steps)) none = absurd none

  pub side_open : (cause : Cause) → IsOpenEnd kind r old new cause → IsSideAnswerOf kind (run_of r old false) (run_of r new false) (side.Open cause)
  side_open cause end = answered end.come (side.Open cause) end.licensed (λ q e. tt) tt

-- a dual has a multiplier for each bound of the kept sentences
pub as_many_rows : (kind : ClaimKind) (s : Subject) (g : Stage) (X : ℕ → ℕ → Rational) (d : Dual) → IsDualEnd (program_of kind s) g X d → length d.rows ≡ length (rows_in s.parts.sentences)
as_many_rows kind s g X d end =
    ap (λ (ys : List ℤ). length ys) end.numbers.rows ∙ signed-length (setting_of s).rows _ ∙ length-map (rows_in s.parts.sentences) (row_of s.parts.nodes)
