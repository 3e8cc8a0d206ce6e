-- What callers use of what was pushed.
use Rattle.std.proofs.Common.{◌<◌, List, ℕ, ◌++◌, length, arith}
use Rattle.ps_read.specs.declared.stage.Stage.{Stage}
use Rattle.ps_read.specs.declared.stage.Stage.TheVariants as stage
use Rattle.ps_read.specs.Stages.{FrontState, Knows, HasPushed}
use Rattle.ps_read.proofs.Knowing.{followed_on}

known_more : (s : Stage) (taken : ℕ) (bytes more : List ℕ) → taken < length bytes → Knows s taken bytes → Knows s taken (bytes ++ more)
known_more (stage.Reading r) taken bytes more l k = absurd (omega (arith, l, k.all))
known_more (stage.Followed p) taken bytes more l k = followed_on p bytes more taken k
known_more (stage.Refused kind line column) taken bytes more l k = absurd (omega (arith, l, k.all))
known_more stage.OutOfMemory taken bytes more l k = absurd k

-- once the problem part has ended, it is as if bytes that follow had been pushed
pub pushed_more : (f : FrontState) (bytes more : List ℕ) → f.taken < length bytes → HasPushed f bytes → HasPushed f (bytes ++ more)
pushed_more f bytes more l h = known_more f.stage f.taken bytes more l h
