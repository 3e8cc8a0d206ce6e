use Rattle.std.proofs.Common.{[], ◌∷◌}
use Rattle.ps_log.proofs.ManyNumbers.{item_short}
use Rattle.ps_log.proofs.numbers.add_terms.Goals as goal

pub add_term-requires : goal.add_term-requires
add_term-requires g c =
    rw c.loop-term.invariant.line
    (item_short (λ t. t.1 ∷ t.0 ∷ []) _ c.args.terms.now c.loop-term.term-index c.term-item.result c.term-item.result c.loop-term-test.true c.term-item.is c.requires)
