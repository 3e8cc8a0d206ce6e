use Rattle.std.proofs.Common.{◌≤◌, sym, rules}
use Rattle.ps_table.specs.Tableau.{basic_at}
use Rattle.ps_bland.proofs.Steps.{less_first, greater_last, before_tie, same_ratio}
use Rattle.ps_bland.proofs.ratios.is_better.Goals as goal

pub returns-in-Less-clause-better : goal.returns-in-Less-clause-better
returns-in-Less-clause-better c = λ _. less_first c.args.ratio.now _ c.args.best.now.ratio _ c.in-Less.ensures.value

pub returns-in-Greater-clause-worse : goal.returns-in-Greater-clause-worse
returns-in-Greater-clause-worse c = λ _. greater_last c.args.ratio.now _ c.args.best.now.ratio _ c.in-Greater.ensures.value

pub returns-in-Equal-clause-better : goal.returns-in-Equal-clause-better
returns-in-Equal-clause-better c = λ h.
    let k : basic_at c.args.table.now c.args.row ≤ basic_at c.args.table.now c.args.best.now.row = search rules in
    before_tie c.args.ratio.now _ c.args.best.now.ratio _ (same_ratio c.args.ratio.now c.args.best.now.ratio c.in-Equal.ensures.value) k

pub returns-in-Equal-clause-worse : goal.returns-in-Equal-clause-worse
returns-in-Equal-clause-worse c = λ h.
    let k : basic_at c.args.table.now c.args.best.now.row ≤ basic_at c.args.table.now c.args.row = search rules in
    before_tie c.args.best.now.ratio _ c.args.ratio.now _ (sym (same_ratio c.args.ratio.now c.args.best.now.ratio c.in-Equal.ensures.value)) k
