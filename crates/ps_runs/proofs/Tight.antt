-- The end of a side: the model reaches the value that the dual shows.
use Rattle.std.proofs.Common.{◌≡◌, ◌≢◌, ℕ, ℤ, pos, negsuc, ◌*ℤ◌, ◌≤ℤ◌, Some, [], ◌∷◌, sym, refl, ap, ◌∙◌, arith}
use Rattle.std.proofs.lemmas.Int.{ints}
use Rattle.ps_meaning.specs.Rational.{Rational}
use Rattle.ps_meaning.proofs.Ring.{var, by}
use Rattle.ps_meaning.proofs.IntRing.{*ℤ_cancel, ring_z}
use Rattle.ps_meaning.specs.Distribution.{weight}
use Rattle.ps_simplex.specs.Rule.{IsFeasible, IsResting}
use Rattle.ps_problem.specs.declared.query.Query as stored
use Rattle.ps_problem.specs.Problems.{Parts, AreParts, bounds_of}
use Rattle.ps_claims.specs.declared.claim_kind.ClaimKind.{ClaimKind}
use Rattle.ps_claims.specs.declared.claim_kind.ClaimKind.TheVariants.{Nothing}
use Rattle.ps_claims.specs.Duals.{Dual, HasValueHead}
use Rattle.ps_claims.specs.Validity.{ShowsTight}
use Rattle.ps_claims.proofs.ProblemRows.{problem-rows}
use Rattle.ps_runs.specs.Programs.{RefutesGain}
use Rattle.ps_runs.specs.Rows.{phase_of, both_of, IsTable}
use Rattle.ps_runs.specs.Certificates.{HaveSameNumbers, weighted_worlds, table_model}
use Rattle.ps_runs.specs.Subjects.{Subject, setting_of, atoms_of, frame_of, program_of}
use Rattle.ps_runs.specs.Runs.{Stage, IsPool, table_at, dual_at}
use Rattle.ps_runs.proofs.Ends.{reached}
use Rattle.ps_runs.proofs.Shown.{allowed_at_end, small_at_end}
use Rattle.ps_runs.proofs.Certified.{refuted_at_rest}

same_ratio : (top head over under both evidence : ℤ) → pos 1 ≤ℤ top → head *ℤ under ≡ over *ℤ top → top *ℤ both ≡ head *ℤ evidence → under *ℤ both ≡ over *ℤ evidence
same_ratio (pos t) head over under both evidence least ratio e =
    *ℤ_cancel (under *ℤ both) (over *ℤ evidence) t (omega (arith, ints))
    (ring_z (under ∷ (both ∷ (pos t ∷ []))) (by (by (var 0) (var 1)) (var 2)) (by (var 0) (by (var 2) (var 1))) refl
    ∙ ap (λ z. under *ℤ z) e
    ∙ ring_z (under ∷ (head ∷ (evidence ∷ []))) (by (var 0) (by (var 1) (var 2))) (by (by (var 1) (var 0)) (var 2)) refl
    ∙ ap (λ z. z *ℤ evidence) ratio
    ∙ ring_z (over ∷ (pos t ∷ (evidence ∷ []))) (by (by (var 0) (var 1)) (var 2)) (by (by (var 0) (var 2)) (var 1)) refl)
same_ratio (negsuc t) head over under both evidence least ratio e = absurd (omega (arith, ints))

module _ (kind : ClaimKind) (p : Parts) (q : stored.Query) (g : Stage) (X : ℕ → ℕ → Rational) (value : Rational) (d : Dual) where
  abbrev s : Subject
  s = record { parts = p; query = Some q }

  pub tight_at_end : kind ≢ Nothing → AreParts p → HaveSameNumbers d (dual_at (program_of kind s) g X) → HasValueHead value d
      → IsTable (setting_of s) g.pool g.basis X → IsFeasible (table_at (frame_of s) g X) → IsPool (atoms_of s) g.pool
      → IsResting (phase_of kind) (table_at (frame_of s) g X) ((program_of kind s).cost g.pool)
      → RefutesGain (program_of kind s) (dual_at (program_of kind s) g X) d.steps
      → ShowsTight p kind q value (table_model (table_at (frame_of s) g X) g.pool) d
  tight_at_end side are same head t feasible pooled rest steps =
      let worlds = weighted_worlds (table_at (frame_of s) g X) g.pool in
      let numbers : d.top *ℤ weight worlds (both_of (setting_of s)) ≡ d.head *ℤ weight worlds (setting_of s).query.evidence =
      ap (λ z. z *ℤ weight worlds (both_of (setting_of s))) same.top
      ∙ reached kind (setting_of s) g.pool g.basis X side t feasible
      ∙ ap (λ z. z *ℤ weight worlds (setting_of s).query.evidence) (sym same.head) in
      record {
        reached = record {
          allowed = allowed_at_end (bounds_of p) (setting_of s) g.pool g.basis X (problem-rows p are) t (atoms_of s) feasible pooled.different pooled.sized;
          equal = same_ratio d.top d.head value.over (pos value.under) (weight worlds (both_of (setting_of s))) (weight worlds (setting_of s).query.evidence) head.top head.ratio numbers;
        };
        basic = small_at_end (bounds_of p) (setting_of s) g.pool g.basis X (problem-rows p are) t;
        head = head;
        refuted = refuted_at_rest kind s g X d same rest steps;
      }
