use Rattle.std.proofs.Common.{to_z, of_z}
use Rattle.std.specs.Int.{w128}
use Rattle.ps_claims.proofs.CombinationSums.{row-added, product-back}
use Rattle.ps_claims.proofs.combining.add_row.Goals as goal

pub returns : goal.returns
returns c = row-added c.add_terms.result c.args.sum.now c.add_base.new.sum c.add_terms.new.sum c.args.multiplier.now
    (to_z w128 (of_z w128 c.times-weight.result)) c.args.row.now
    (product-back c.args.multiplier.now c.args.row.now.base c.times-weight.result c.requires.row.base c.times-weight.ensures.size c.times-weight.ensures.value)
    c.add_base.ensures (rw c.as_slice.ensures at c.add_terms.ensures)
