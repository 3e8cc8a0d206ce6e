use Rattle.std.proofs.Common.{rules, length}
use Rattle.ps_simplex.specs.Rule.{IsRising}
use Rattle.ps_table.specs.Tableau.{number_in}
use Rattle.ps_bland.specs.Rules.{simplex_of}
use Rattle.ps_bland.specs.Rounds.{GoesBeforeRow}
use Rattle.ps_bland.proofs.Steps.{precedes_by, next_better, next_kept}
use Rattle.ps_bland.proofs.ratios.with_row.Goals as goal

pub returns-then-is_better-clause-best : goal.returns-then-is_better-clause-best
returns-then-is_better-clause-best c =
    let t = c.args.table.now in
    let q = number_in (length t.kinds) c.args.col in
    let row = c.args.row in
    let best = c.args.best in
    let r : IsRising (simplex_of t) q row = search rules in
    let before : GoesBeforeRow t row c.in_ok-ratio.ratio best.row best.ratio = search rules in
    next_better t q row best.row c.requires.best r
    (precedes_by (simplex_of t) q row best.row c.in_ok-ratio.ratio best.ratio c.in_ok-ratio.ensures.value c.requires.best_ratio before)

pub returns-else-is_better-clause-best : goal.returns-else-is_better-clause-best
returns-else-is_better-clause-best c =
    let t = c.args.table.now in
    let q = number_in (length t.kinds) c.args.col in
    let row = c.args.row in
    let best = c.args.best in
    let before : GoesBeforeRow t best.row best.ratio row c.in_ok-ratio.ratio = search rules in
    next_kept t q row best.row c.requires.best
    (λ _. precedes_by (simplex_of t) q best.row row best.ratio c.in_ok-ratio.ratio c.requires.best_ratio c.in_ok-ratio.ensures.value before)
