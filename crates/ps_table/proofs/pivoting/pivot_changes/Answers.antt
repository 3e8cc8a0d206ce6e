use Rattle.std.proofs.Common.{◌≡◌, ◌*◌, ◌+◌, suc, length, arith, sym, ap, subst}
use Rattle.ps_table.specs.Grids.{cell_in, enters, IsScaleNarrow}
use Rattle.ps_table.specs.Changes.{IsUpTo}
use Rattle.ps_table.proofs.Narrow.{all_more, pivot_narrow}
use Rattle.ps_table.proofs.Changes.{up_none, up_all}
use Rattle.ps_table.proofs.pivoting.pivot_changes.Goals as goal

pub loop-column-init : goal.loop-column-init
loop-column-init c = record {
  upto = subst (IsUpTo c.args.grid.now c.args.pivot.now (0 * c.args.grid.now.rows)) (sym c.new-changes.ensures.items) (up_none c.args.grid.now c.args.pivot.now (0 * c.args.grid.now.rows) (omega arith));
  narrow = λ k l. omega (arith, l);
}

pub loop-column-preserved : goal.loop-column-preserved
loop-column-preserved c = record {
  upto =
      let e : suc c.loop-column.column ≡ c.loop-column.column + 1 = omega arith in
      subst (λ w. IsUpTo c.args.grid.now c.args.pivot.now (w * c.args.grid.now.rows) c.push_column.new.changes.items) e c.in_ok-push_column.ensures.after;
  narrow = all_more (IsScaleNarrow c.args.grid.now c.args.pivot.now) c.loop-column.column c.loop-column.invariant.narrow c.in_ok-push_column.ensures.narrow;
}

pub returns-clause-pivoted : goal.returns-clause-pivoted
returns-clause-pivoted c =
    let g = c.args.grid.now in
    let e : c.loop-column.column ≡ suc g.rows = omega (arith, c.loop-column-test.false, c.width-column-end.ensures.value, c.loop-column.auto) in
    up_all g c.args.pivot.now (c.loop-column.column * g.rows) _ (subst (λ w. length g.cells ≡ w * g.rows) (sym e) c.requires.pivot.grid.size) c.loop-column.invariant.upto

pub returns-clause-narrow : goal.returns-clause-narrow
returns-clause-narrow c =
    let g = c.args.grid.now in
    let p = c.args.pivot.now in
    let e : c.loop-column.column ≡ suc g.rows = omega (arith, c.loop-column-test.false, c.width-column-end.ensures.value, c.loop-column.auto) in
    pivot_narrow g.rows p.row (length g.cells) (cell_in g) (enters p) c.requires.pivot.grid.size
    (λ j l. c.loop-column.invariant.narrow j (omega (arith, e, l)))
    (λ k l. c.loop-column.invariant.upto.narrow k (omega (arith, ap (λ w. w * g.rows) e, c.requires.pivot.grid.size, l)))
