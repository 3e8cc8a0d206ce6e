use Rattle.std.proofs.Common.{[], ◌∷◌, get_or, pos, refl}
use Rattle.ps_log.proofs.ManyNumbers.{item_short}
use Rattle.ps_explain.proofs.writing.add_numbers.Goals as goal

pub add_whole-requires : goal.add_whole-requires
add_whole-requires g c =
    rw c.loop-number.invariant.line
    (item_short (λ n. pos n ∷ []) _ c.args.numbers.now c.loop-number.number-index (get_or c.args.numbers.now c.loop-number.number-index 0) 0 c.loop-number-test.true refl c.requires)
