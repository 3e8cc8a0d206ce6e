-- What the ends of phases show, in the words of claims.
use Rattle.std.proofs.Common.{◌≡◌, ◌≢◌, ◌↔◌, ℕ, List, length, All, AllPairs, refl, sym, arith}
use Rattle.std.proofs.lemmas.Int.{ints}
use Rattle.std.proofs.lemmas.Slice.Zip.{AllZip-long}
use Rattle.ps_meaning.specs.Rational.{Rational}
use Rattle.ps_meaning.specs.Formula.{World}
use Rattle.ps_meaning.specs.Distribution.{Entry}
use Rattle.ps_meaning.specs.Bounds.{Bound, MeetsBound}
use Rattle.ps_meaning.specs.Rows.{Row, MeetsRow}
use Rattle.ps_simplex.specs.Rule.{IsFeasible}
use Rattle.ps_claims.specs.Queries.{IsAllowed}
use Rattle.ps_claims.specs.Rows.{AreRowsOf}
use Rattle.ps_claims.proofs.ProblemRows.{bounds-met}
use Rattle.ps_claims.specs.Answers.{IsBasicModel}
use Rattle.ps_claims.specs.declared.claim_kind.ClaimKind.TheVariants.{Nothing}
use Rattle.ps_claims.specs.Duals.{HasNothingHead}
use Rattle.ps_runs.specs.Rows.{Setting, cost_of, table_of, IsTable}
use Rattle.ps_runs.specs.Certificates.{table_dual, weighted_worlds, table_model}
use Rattle.ps_runs.proofs.Models.{big_positive, evidence_weight, rows_met, few_worlds, is_distribution}
use Rattle.ps_runs.proofs.Ends.{head_above}

-- there are as many rows as bounds
as_many : (bounds : List Bound) (rows : List Row) → AreRowsOf bounds rows → length bounds ≡ length rows
as_many bounds rows of = sym (AllZip-long (λ (b : Bound) (r : Row). (d : List Entry) → MeetsBound b d ↔ MeetsRow r d) bounds rows of)

module _ (bounds : List Bound) (s : Setting) (pool : List World) (basic : ℕ → ℕ) (X : ℕ → ℕ → Rational) (of : AreRowsOf bounds s.rows) (t : IsTable s pool basic X) where
  -- the worlds of a feasible table are allowed
  pub allowed_at_end : (atoms : ℕ) → IsFeasible (table_of s pool basic X) → AllPairs (λ u v. u ≢ v) pool → All (λ (w : World). length w ≡ atoms) pool
      → IsAllowed atoms bounds s.query.evidence (weighted_worlds (table_of s pool basic X) pool)
  allowed_at_end atoms feasible apart sized = record {
    model = record {
      distribution = is_distribution s pool basic X t atoms feasible apart sized;
      met = bounds-met bounds s.rows (weighted_worlds (table_of s pool basic X) pool) of (rows_met s pool basic X t feasible);
    };
    positive = let e = evidence_weight s pool basic X t feasible in let h = big_positive s pool basic X t in omega (arith, ints, e, h);
  }

  pub small_at_end : IsBasicModel bounds (table_model (table_of s pool basic X) pool)
  small_at_end = record { few = let a = few_worlds s pool basic X t in let e = as_many bounds s.rows of in omega (arith, a, e); total = refl }

module _ (s : Setting) (pool : List World) (basic : ℕ → ℕ) (X : ℕ → ℕ → Rational) (t : IsTable s pool basic X) where
  -- phase one rests above 0
  pub nothing_head : (IsFeasible (table_of s pool basic X) → ⊥) → HasNothingHead (table_dual Nothing s (table_of s pool basic X) (cost_of Nothing s pool))
  nothing_head unfinished = record { top = refl; head = head_above s pool basic X t unfinished }
