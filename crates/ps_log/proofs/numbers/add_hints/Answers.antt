use Rattle.std.proofs.Common.{[], ◌∷◌, get_or, pos, refl}
use Rattle.ps_log.proofs.ManyNumbers.{item_short}
use Rattle.ps_log.proofs.numbers.add_hints.Goals as goal

pub add_hint-requires : goal.add_hint-requires
add_hint-requires g c =
    rw c.loop-hint.invariant.line (item_short (λ hint. pos hint ∷ []) _ c.args.hints.now c.loop-hint.hint-index (get_or c.args.hints.now c.loop-hint.hint-index 0) 0 c.loop-hint-test.true refl c.requires)
