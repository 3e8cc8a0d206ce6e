-- The model of a feasible table is that of its stage, or a number of it is too wide where a model is due.
use Rattle.std.proofs.Common.{◌≡◌, ℕ, List, sym, subst}
use Rattle.ps_meaning.specs.Formula.{World}
use Rattle.ps_simplex.specs.Rule.{IsFeasible}
use Rattle.ps_table.specs.Tableau.{Tableau, entry_at, basic_at}
use Rattle.ps_table.specs.declared.place.WideAt.{WideAt}
use Rattle.ps_table.specs.Places.{IsWideAt}
use Rattle.ps_bland.specs.Rules.{simplex_of}
use Rattle.ps_generation.specs.Multiples.{ModelPlaces}
use Rattle.ps_answer.specs.declared.answer.Model.{Model}
use Rattle.ps_claims.specs.declared.claim_kind.ClaimKind.{ClaimKind}
use Rattle.ps_runs.specs.Subjects.{Subject, setting_of, atoms_of, frame_of, program_of}
use Rattle.ps_runs.specs.Runs.{IsPool, table_at, IsFeasibleAt, IsModelAt}
use Rattle.ps_runs.specs.Certificates.{table_model}
use Rattle.ps_problem.specs.Problems.{AreParts, bounds_of}
use Rattle.ps_claims.specs.Queries.{IsAllowed}
use Rattle.ps_claims.specs.Answers as claimed
use Rattle.ps_claims.specs.Answers.{ShowsConsistent}
use Rattle.ps_claims.specs.Certificates.{model_of}
use Rattle.ps_claims.proofs.ProblemRows.{problem-rows}
use Rattle.ps_runs.specs.Tables.{IsRunTable, stage_at}
use Rattle.ps_runs.specs.Licences.{IsModelDue, IsTooWide}
use Rattle.ps_runs.proofs.Shapes.{same_table, run_table}
use Rattle.ps_runs.proofs.TableEnds.{model_of_stage}
use Rattle.ps_runs.proofs.Licensing.{belongs_there, model_due}
use Rattle.ps_runs.proofs.Certified.{consistent_at_end}
use Rattle.ps_runs.proofs.Shown.{allowed_at_end}
use Rattle.ps_generation.specs.Models.{IsTableModel}

module _ (s : Subject) (pool : List World) (t : Tableau) (run : IsRunTable (frame_of s) pool t) where
  pub feasible_at : IsFeasible (simplex_of t) → IsFeasibleAt (frame_of s) (stage_at pool t) (entry_at t)
  feasible_at feasible = record {
    belongs = belongs_there s pool t run;
    feasible = subst IsFeasible (same_table (setting_of s) pool t run.kinds run.worlds) feasible;
  }

  pub feasible_back : IsFeasibleAt (frame_of s) (stage_at pool t) (entry_at t) → IsFeasible (simplex_of t)
  feasible_back at = subst IsFeasible (sym (same_table (setting_of s) pool t run.kinds run.worlds)) at.feasible

  pub is_table_model : (m : Model) → IsTableModel t pool m → model_of m ≡ table_model (table_at (frame_of s) (stage_at pool t) (entry_at t)) pool
  is_table_model m is = model_of_stage s pool t run (model_of m) is.total is.worlds

  pub model_at : (m : Model) → IsFeasibleAt (frame_of s) (stage_at pool t) (entry_at t) → IsTableModel t pool m → IsModelAt (frame_of s) (stage_at pool t) (model_of m)
  model_at m feasible is = record { table = entry_at t; feasible = feasible; model = is_table_model m is }

  pub model_wide : (kind : ClaimKind) (left : ℕ) (at : WideAt) → IsModelDue (program_of kind s) (stage_at pool t) (entry_at t) → IsWideAt (ModelPlaces t) at
      → IsTooWide (program_of kind s) (stage_at pool t) left at
  model_wide kind left at due wide = model_due s pool t run kind left at due wide

  pub consistent : (m : Model) → AreParts s.parts → IsPool (atoms_of s) pool → IsFeasibleAt (frame_of s) (stage_at pool t) (entry_at t) → IsTableModel t pool m
      → ShowsConsistent (atoms_of s) (bounds_of s.parts) (model_of m)
  consistent m are pooled feasible is =
      subst (ShowsConsistent (atoms_of s) (bounds_of s.parts)) (sym (is_table_model m is))
      (consistent_at_end s (stage_at pool t) (entry_at t) are (run_table (setting_of s) pool t run) feasible.feasible pooled)

  pub allowed : (m : Model) → AreParts s.parts → IsPool (atoms_of s) pool → IsFeasibleAt (frame_of s) (stage_at pool t) (entry_at t) → IsTableModel t pool m
      → IsAllowed (atoms_of s) (bounds_of s.parts) (setting_of s).query.evidence (model_of m).worlds
  allowed m are pooled feasible is =
      subst (λ (n : claimed.Model). IsAllowed (atoms_of s) (bounds_of s.parts) (setting_of s).query.evidence n.worlds) (sym (is_table_model m is))
      (allowed_at_end (bounds_of s.parts) (setting_of s) pool (basic_at t) (entry_at t) (problem-rows s.parts are) (run_table (setting_of s) pool t run) (atoms_of s) feasible.feasible pooled.different pooled.sized)
