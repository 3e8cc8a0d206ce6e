use Rattle.std.proofs.Common.{◌≡◌, ◌*◌, ◌/◌, ◌<◌, ◌^◌, ℕ, IfSome, Some, Option}
use Rattle.ps_whole.specs.Rows.{IsNextUnder}
use Rattle.ps_whole.proofs.RowOf.{next_some}
use Rattle.ps_whole.proofs.row_of.next_under.Goals as goal

pub returns : goal.returns
returns c = record {
  next = next_some c.args.under c.in_ok-other.other c.gcd_of_words-g.result c.args.entry.now c.small_product.result
      c.requires.positive c.in_ok-other.ensures.value c.in_ok-other.ensures.positive c.gcd_of_words-g.ensures.value c.small_product.ensures.value c.small_product.ensures.small;
}
