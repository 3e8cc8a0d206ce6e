use Rattle.std.proofs.Common.{◌≡◌, ◌<◌, subst, sym, ap}
use Rattle.ps_whole.specs.Pivots.{IsPivoted, ArePivotsNarrow}
use Rattle.ps_table.specs.Grids.{cell_in}
use Rattle.ps_table.specs.KeptCells.{IsWholeHomePivot}
use Rattle.ps_table.proofs.KeptCells.{kept_is_whole}
use Rattle.ps_table.proofs.KeptPivots.{kept_enters, pivot_of, whole_pivot, ok_some_map}
use Rattle.ps_table.proofs.kept.Kept.whole_home_pivoted.Goals as goal

pub column-requires : goal.column-requires
column-requires c =
    let h = kept_is_whole c.self.inside.rows c.self.inside.cells c.in-Whole.whole c.args.self.now c.self.invariant c.in-Whole.is c.self.view_is in
    record { column = subst (λ n. c.args.column < n) (sym h.columns) c.requires.column }

pub whole_pivoted-requires : goal.whole_pivoted-requires
whole_pivoted-requires c =
    let w = c.in-Whole.whole in
    let g = c.args.self.now in
    let j = c.args.column in
    let numbers = c.in_ok-numbers-in-Whole.numbers.items in
    let h = kept_is_whole c.self.inside.rows c.self.inside.cells w g c.self.invariant c.in-Whole.is c.self.view_is in
    let is = c.in_ok-numbers-in-Whole.ensures.kept in
    rw c.deref.ensures.value (record { pivot = pivot_of w g (λ i. cell_in g i j) c.args.row numbers h c.requires.row is.count is.small (kept_enters w g j numbers h c.requires.column is) c.requires.pivot })

pub returns-in_ok-numbers-in-Whole : goal.returns-in_ok-numbers-in-Whole
returns-in_ok-numbers-in-Whole c =
    let w = c.in-Whole.whole in
    let g = c.args.self.now in
    let j = c.args.column in
    let p = c.args.row in
    let numbers = c.in_ok-numbers-in-Whole.numbers.items in
    let h = kept_is_whole c.self.inside.rows c.self.inside.cells w g c.self.invariant c.in-Whole.is c.self.view_is in
    let is = c.in_ok-numbers-in-Whole.ensures.kept in
    let e : c.deref.result.now ≡ numbers = c.deref.ensures.value in
    record {
      pivoted = ok_some_map c.whole_pivoted.result (IsPivoted w p c.deref.result.now) (IsWholeHomePivot g p j)
          (λ new turned. whole_pivot w new g (λ i. cell_in g i j) p numbers h c.requires.row c.requires.grid.size (kept_enters w g j numbers h c.requires.column is)
          (subst (ArePivotsNarrow w p) e c.whole_pivoted.ensures.narrow) (subst (λ ns. IsPivoted w p ns new) e turned)) c.whole_pivoted.ensures.pivoted;
    }
