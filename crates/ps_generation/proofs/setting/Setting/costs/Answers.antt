use Rattle.std.proofs.Common.{◌≡◌, ℕ, Result, Ok, Err, IfOk, List, map, ◌∙◌, ap, sym}
use Rattle.ps_meaning.specs.Formula.{World}
use Rattle.ps_formula.specs.declared.node.Node.{Node}
use Rattle.ps_table.specs.declared.home.Home.{Home}
use Rattle.ps_table.specs.declared.costs.Costs.{Costs}
use Rattle.ps_simplex.specs.declared.phase.Phase.{Phase}
use Rattle.ps_claims.specs.declared.claim_kind.ClaimKind.{ClaimKind}
use Rattle.ps_runs.specs.Columns.{home_cost, costs_over}
use Rattle.ps_runs.specs.Subjects.{Subject, setting_of, IsAsked, both_in}
use Rattle.ps_runs.specs.Rows.{phase_of}
use Rattle.ps_runs.specs.Rows.{homes_of}
use Rattle.ps_runs.specs.Tables.{costs_for}
use Rattle.ps_runs.proofs.NodeColumns.{costs_are}
use Rattle.ps_problem.specs.Problems.{Parts}
use Rattle.ps_generation.specs.Phases.{LimitedSubject}
use Rattle.ps_generation.proofs.setting.Setting.costs.Goals as goal

-- the costs that are found are those of the setting
module _ (kind : ClaimKind) (s : Subject) (pool : List World) (kinds : List Home) (phase : Phase) (ns : List Node) (both : ℕ)
    (asked : IsAsked kind s.parts s.query) (homes : kinds ≡ homes_of (setting_of s)) (by_kind : phase ≡ phase_of kind) (nodes : ns ≡ s.parts.nodes) (query : both ≡ both_in s.query) where
  costs_found : {E : Type 0} (found : Result Costs E) → IfOk found (λ c. c.homes ≡ map (home_cost phase) kinds) → IfOk found (λ c. c.worlds ≡ costs_over phase ns both pool)
      → IfOk found (λ c. c ≡ costs_for kind (setting_of s) pool)
  costs_found (Ok c) h w =
      (λ i. record {
        homes = (h ∙ (λ j. map (home_cost (by_kind j)) kinds)) i;
        worlds = (w ∙ (λ j. costs_over (by_kind j) (nodes j) (query j) pool)) i;
      })
      ∙ costs_are kind s pool kinds asked homes
  costs_found (Err e) h w = tt

pub returns-clause-costs : goal.returns-clause-costs
returns-clause-costs c =
    costs_found c.args.kind c.args.self.now.subject c.args.state.now.pool c.args.state.now.table.kinds c.phase_of.result c.formulas.result.now c.both.result c.requires.asked
    c.requires.table.kinds c.phase_of.ensures
    (c.formulas.ensures.nodes ∙ ap (λ (p : Parts). p.nodes) (sym c.self.invariant.0.parts) ∙ ap (λ (r : LimitedSubject). r.subject.parts.nodes) c.self.view_is)
    (c.both.ensures.value ∙ ap (λ (r : LimitedSubject). both_in r.subject.query) c.self.view_is) c.costs_for.result c.costs_for.ensures.homes c.costs_for.ensures.worlds
