-- How much is read of an input.
use Rattle.std.specs.Prelude.{◌+◌, ◌<◌, ◌≤◌, ℕ, List, length, Option, IfSome}
use Rattle.std.specs.Io.KnownBytes.{IsAtEnd}
use Rattle.ps_io.specs.declared.limits.TheConstants.{LONGEST_READ}
use Rattle.ps_io.specs.Transfer.{TookMore, TookWithin}
use Rattle.ps_ask.specs.declared.answering.TheConstants.{MOST_PROBLEM}
use Rattle.ps_ask.specs.declared.status.Status.{Status}
use Rattle.ps_ask.specs.declared.status.Status.TheVariants.{ReadFault, NoMemory}

-- a source that told its bytes is at its end where they were at most so many, and else more than these were taken, but no more
-- than one read beyond them
pub record WasRead (limit : ℕ) (old new : Option (List ℕ)) : Type 0 where
  pub within : IfSome old (λ bytes. length bytes ≤ limit → IsAtEnd new)
  pub long : IfSome old (λ bytes. limit < length bytes → TookMore limit old new)

-- what was taken from a source that had this left before and that after, by the status: never more than one read beyond the most
-- bytes of a problem
abbrev pub Took : Status → Option (List ℕ) → Option (List ℕ) → Type 0
Took ReadFault old new = TookWithin MOST_PROBLEM old new
Took NoMemory old new = TookWithin (MOST_PROBLEM + LONGEST_READ) old new
Took status old new = WasRead MOST_PROBLEM old new
