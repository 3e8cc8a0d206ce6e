use Rattle.std.proofs.Common.{rules, ◌≡◌, List, sym, ◌∙◌, subst}
use Rattle.ps_meaning.specs.Formula.{World}
use Rattle.ps_table.specs.declared.home.Home.{Home}
use Rattle.ps_table.specs.Tableau.{HasUnitHomes, HasBasicHomes, IsTableForHomes}
use Rattle.ps_problem.specs.Rows.{rows_in}
use Rattle.ps_runs.specs.Columns.{homes_over}
use Rattle.ps_runs.specs.Subjects.{setting_of, frame_of}
use Rattle.ps_runs.specs.Runs.{IsStart}
use Rattle.ps_runs.specs.Rows.{homes_of}
use Rattle.ps_runs.specs.Tables.{IsRunTable, stage_at}
use Rattle.ps_runs.proofs.NodeColumns.{homes_are}
use Rattle.ps_runs.proofs.Adding.{new_table, new_stage}
use Rattle.ps_generation.proofs.setting.Setting.start.Goals as goal

pub returns : goal.returns
returns c =
    let s = c.args.self.now.subject in
    let t = c.in_ok-table.table in
    let homes : c.deref.result.now ≡ homes_over (rows_in s.parts.sentences) = search rules in
    let is : c.deref.result.now ≡ homes_of (setting_of s) = homes ∙ homes_are s in
    let kinds : t.kinds ≡ homes_of (setting_of s) = c.in_ok-table.ensures.kinds ∙ is in
    let units : HasUnitHomes (homes_of (setting_of s)) t = subst (λ (hs : List Home). HasUnitHomes hs t) is c.in_ok-table.ensures.cells in
    let stands : IsTableForHomes (homes_of (setting_of s)) t = subst (λ (hs : List Home). IsTableForHomes hs t) is c.in_ok-table.ensures.stands in
    let basics : HasBasicHomes (homes_of (setting_of s)) t = subst (λ (hs : List Home). HasBasicHomes hs t) is c.in_ok-table.ensures.basic in
    record {
      table =
          subst (λ (ws : List World). IsRunTable (frame_of s) ws t) (sym c.new-2.ensures)
          (new_table (setting_of s) t kinds c.in_ok-table.ensures.worlds units stands c.rows-sound.ensures.tableau);
      start = subst (λ (ws : List World). IsStart (frame_of s) (stage_at ws t)) (sym c.new-2.ensures) (new_stage s t kinds basics);
      trace = c.new-3.ensures;
      left = search rules;
    }
