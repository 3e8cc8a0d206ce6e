use Rattle.ps_log.proofs.ManyNumbers.{lit_short}
use Rattle.ps_log.proofs.numbers.add_lits.Goals as goal

pub add_lit-requires : goal.add_lit-requires
add_lit-requires g c =
    rw c.loop-lit.invariant.line (lit_short _ c.args.lits.now c.loop-lit.lit-index c.lit-item.result c.lit-item.result c.loop-lit-test.true c.lit-item.is c.requires)
