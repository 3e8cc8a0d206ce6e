use Rattle.std.proofs.Common.{rules, ◌≡◌, get_or, sym, subst}
use Rattle.ps_problem.specs.Rows.{HasSmallRights}
use Rattle.ps_runs.proofs.KeptRows.{small_right_at}
use Rattle.ps_runs.proofs.rows.kept_rows.Goals as goal

pub push_kept-requires : goal.push_kept-requires
push_kept-requires c =
    let ss = c.as_slice-sentences.result.now in
    let s = c.index-sentences-i.result in
    let is : s ≡ get_or ss c.loop-i.i s = c.index-sentences-i.is in
    subst HasSmallRights (sym is) (small_right_at c.args.problem.now ss c.loop-i.i s c.rows-sound.ensures.parts (search rules) (search rules))
