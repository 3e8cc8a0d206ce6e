use Rattle.std.proofs.Common.{◌≡◌, ◌<◌, List, length, IfSome, subst, sym, ap, ◌∙◌, arith}
use Rattle.ps_meaning.specs.Rational.{Rational}
use Rattle.ps_whole.specs.Columns.{IsCellOf}
use Rattle.ps_whole.specs.Rows.{IsRowOf}
use Rattle.ps_table.specs.Prices.{IsWholePrice}
use Rattle.ps_table.proofs.KeptPivots.{some_map}
use Rattle.ps_table.proofs.WholePrices as prices
use Rattle.ps_table.proofs.multipliers.Multipliers.whole_price.Goals as goal

pub cell_of-requires : goal.cell_of-requires
cell_of-requires c =
    let w = c.in-Some.row in
    let is : IsRowOf c.args.self.now w = subst (λ ms. IsRowOf ms w) c.self.view_is (rw c.in-Some.is at c.self.invariant) in
    record { row = omega (arith, is.rows_is); homes = omega (arith, c.requires.count, is.width_is) }

pub returns-in-Some : goal.returns-in-Some
returns-in-Some c =
    let w = c.in-Some.row in
    let ms = c.args.self.now in
    let es = c.args.entries.now in
    let is : IsRowOf ms w = subst (λ ks. IsRowOf ks w) c.self.view_is (rw c.in-Some.is at c.self.invariant) in
    record { price = some_map c.cell_of.result (IsCellOf w es 0) (IsWholePrice ms es) (λ x h. prices.whole_price ms w es is c.requires.count x h) c.cell_of.ensures.cell }
