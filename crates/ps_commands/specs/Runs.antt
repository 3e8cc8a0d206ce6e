-- What a run of the program reads and writes.
use Rattle.std.specs.Prelude.{◌≡◌, ◌+◌, ◌<◌, ◌≤◌, ℕ, List, length, Option, Some, IfSome, String}
use Rattle.std.specs.declared.alloc.Global.{Global}
use Rattle.std.specs.Io.KnownBytes.{IsAtEnd}
use Rattle.ps_io.specs.declared.limits.TheConstants.{LONGEST_READ}
use Rattle.ps_io.specs.Causes.{next_count}
use Rattle.ps_io.specs.Transfer.{Appends, AppendsPrefix, TookMore, TookWithin}
use Rattle.ps_commands.specs.declared.command.Command.{Command}
use Rattle.ps_messages.specs.declared.status.Status.{Status}
use Rattle.ps_messages.specs.declared.status.Status.TheVariants.{ReadFault, WriteFault, NoMemory}
use Rattle.ps_commands.specs.Commands.{Spell, limit_of, words_of}
use Rattle.ps_commands.specs.Statuses.{MayAnswer}
use Rattle.ps_commands.specs.Due.{Due}
use Rattle.ps_messages.specs.Lines.{Output}

-- the bytes are those that the source had left, if the command reads
abbrev pub IsTold : Command → Option (List ℕ) → List ℕ → Type 0
IsTold command left bytes = IfSome (limit_of command) (λ limit. left ≡ Some bytes)

-- the bytes are the run's input: what the source had left, or any bytes where the words spell no command that reads
pub record IsGiven (words : List (List ℕ)) (left : Option (List ℕ)) (bytes : List ℕ) : Type 0 where
  pub told : (command : Command) → Spell words command → IsTold command left bytes

-- a source that told its bytes is at its end where they were within the limit, and else more than the limit was
-- taken, but no more than one read beyond it
pub record WasRead (limit : ℕ) (old new : Option (List ℕ)) : Type 0 where
  pub within : IfSome old (λ bytes. length bytes ≤ limit → IsAtEnd new)
  pub long : IfSome old (λ bytes. limit < length bytes → TookMore limit old new)

-- what a command with a limit took from the source, by the status of its run: never more than one read beyond the limit
abbrev pub Took : ℕ → Status → Option (List ℕ) → Option (List ℕ) → Type 0
Took limit ReadFault old new = TookWithin limit old new
Took limit NoMemory old new = TookWithin (limit + LONGEST_READ) old new
Took limit status old new = WasRead limit old new

-- what a command took from the source
abbrev pub HasTaken : Command → Status → Option (List ℕ) → Option (List ℕ) → Type 0
HasTaken command status old new = IfSome (limit_of command) (λ limit. Took limit status old new)

-- what the command of the words took from a source that had this left before and that after, by the status
pub record HasRead (old new : Option (List ℕ)) (words : List (String Global)) (status : Status) : Type 0 where
  pub read : (command : Command) → Spell (words_of words) command → HasTaken command status old new

-- the status is one of the command of the words, or a call failed
pub record HasAnswered (words : List (String Global)) (status : Status) : Type 0 where
  pub answered : (command : Command) → Spell (words_of words) command → MayAnswer command status

-- a source's count of faults rises by one at a read fault, and else stays as it was
abbrev pub CountsReads : ℕ → ℕ → Status → Type 0
CountsReads old new ReadFault = new ≡ next_count old
CountsReads old new status = new ≡ old

-- the same of a sink's and a write fault
abbrev pub CountsWrites : ℕ → ℕ → Status → Type 0
CountsWrites old new WriteFault = new ≡ next_count old
CountsWrites old new status = new ≡ old

-- the due output was written whole, and its status answered
pub record Answered (words : List (List ℕ)) (bytes : List ℕ) (status : Status) (old new : Option (List ℕ)) : Type 0 where
  pub output : Output
  pub due : Due words bytes output
  pub status_is : status ≡ output.status
  pub written : Appends old new output.text

-- a proper prefix of the due output was written
pub record Cut (words : List (List ℕ)) (bytes : List ℕ) (old new : Option (List ℕ)) : Type 0 where
  pub output : Output
  pub due : Due words bytes output
  pub written : AppendsPrefix old new output.text

-- what a run wrote, by its status, for the words and the bytes that it was given
abbrev pub Wrote : List (List ℕ) → List ℕ → Status → Option (List ℕ) → Option (List ℕ) → Type 0
Wrote words bytes ReadFault old new = new ≡ old
Wrote words bytes NoMemory old new = new ≡ old
Wrote words bytes WriteFault old new = Cut words bytes old new
Wrote words bytes status old new = Answered words bytes status old new

-- whatever bytes are the run's input, it wrote what `Wrote` says of them and of its status: the sink went from `old` to `new`
pub record Ran (left old new : Option (List ℕ)) (words : List (String Global)) (status : Status) : Type 0 where
  pub wrote : (bytes : List ℕ) → IsGiven (words_of words) left bytes → Wrote (words_of words) bytes status old new
