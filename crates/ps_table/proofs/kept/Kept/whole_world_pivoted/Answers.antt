use Rattle.std.proofs.Common.{◌≡◌, ◌<◌, length, subst, sym, ap, arith}
use Rattle.ps_whole.specs.Pivots.{IsPivoted, ArePivotsNarrow}
use Rattle.ps_whole.specs.Columns.{IsMadeColumn}
use Rattle.ps_table.specs.Grids.{combined_in}
use Rattle.ps_table.specs.KeptCells.{IsWholeWorldPivot}
use Rattle.ps_table.proofs.KeptCells.{kept_is_whole}
use Rattle.ps_table.proofs.KeptPivots.{pivot_of, whole_pivot, ok_some_map}
use Rattle.ps_table.proofs.KeptWorlds.{made_enters, made_narrow}
use Rattle.ps_table.proofs.kept.Kept.whole_world_pivoted.Goals as goal

pub column_of-requires : goal.column_of-requires
column_of-requires c =
    let h = kept_is_whole c.self.inside.rows c.self.inside.cells c.in-Whole.whole c.args.self.now c.self.invariant c.in-Whole.is c.self.view_is in
    record { homes = omega (arith, c.requires.column.count, h.columns) }

pub whole_pivoted-requires : goal.whole_pivoted-requires
whole_pivoted-requires c =
    let w = c.in-Whole.whole in
    let g = c.args.self.now in
    let es = c.args.entries.now in
    let numbers = c.in-Some.numbers.items in
    let h = kept_is_whole c.self.inside.rows c.self.inside.cells w g c.self.invariant c.in-Whole.is c.self.view_is in
    let is : IsMadeColumn w es numbers = rw c.in-Some.is at c.in_ok-numbers-in-Whole.ensures.made in
    rw c.deref.ensures.value (record { pivot = pivot_of w g (combined_in g es) c.args.row numbers h c.requires.row is.count is.small (made_enters w g es c.args.number h c.requires.column.count numbers is) c.requires.pivot })

pub returns-in-Some : goal.returns-in-Some
returns-in-Some c =
    let w = c.in-Whole.whole in
    let g = c.args.self.now in
    let es = c.args.entries.now in
    let p = c.args.row in
    let k = c.args.number in
    let numbers = c.in-Some.numbers.items in
    let h = kept_is_whole c.self.inside.rows c.self.inside.cells w g c.self.invariant c.in-Whole.is c.self.view_is in
    let is : IsMadeColumn w es numbers = rw c.in-Some.is at c.in_ok-numbers-in-Whole.ensures.made in
    let e : c.deref.result.now ≡ numbers = c.deref.ensures.value in
    record {
      pivoted = ok_some_map c.whole_pivoted.result (IsPivoted w p c.deref.result.now) (IsWholeWorldPivot g p es k)
          (λ new turned. record {
            pivot = whole_pivot w new g (combined_in g es) p numbers h c.requires.row c.requires.column.grid.size (made_enters w g es k h c.requires.column.count numbers is)
                (subst (ArePivotsNarrow w p) e c.whole_pivoted.ensures.narrow) (subst (λ ns. IsPivoted w p ns new) e turned);
            column = made_narrow w g es k h c.requires.column.count numbers is;
          }) c.whole_pivoted.ensures.pivoted;
    }
