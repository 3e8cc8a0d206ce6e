-- The number with which the program ends.
use Rattle.std.specs.Prelude.{ℕ, List, drop, codes, Option, Some, None, Result, Ok, Err, IfOk, String}
use Rattle.std.specs.Vec.Iter.{into_iter_items}
use Rattle.std.specs.declared.alloc.Global.{Global}
use Rattle.std.specs.declared.vec.IntoIter.{IntoIter}
use Rattle.ps_commands.specs.declared.exit.NoWords.{NoWords}
use Rattle.ps_commands.specs.declared.exit.NoWords.TheVariants as none
use Rattle.ps_messages.specs.declared.status.Status.{Status}
use Rattle.ps_messages.specs.declared.status.Status.TheVariants.{ReadFault, WriteFault, NoMemory}
use Rattle.ps_messages.specs.Statuses.{status_number}

-- where the words are had and a run gave a status, the fact holds of the words behind the program's name, which is the first, and
-- of the status
abbrev pub IfRan : {E : Type 0} → Result (IntoIter (String Global) Global) E → Result Status NoWords
    → (List (String Global) → Status → Type 0) → Type 0
IfRan all ended P = IfOk all (λ args. IfOk ended (λ status. P (drop 1 (into_iter_items args)) status))

-- the number after a run, and where the words can't be had
abbrev pub exit_number : Result Status NoWords → ℕ
exit_number (Ok status) = status_number status
exit_number (Err why) = 10

-- what `main` tells of a failure: none where the due text was written
abbrev pub failure_words : Result Status NoWords → Option (List ℕ)
failure_words (Ok ReadFault) = Some (codes "standard input failed")
failure_words (Ok WriteFault) = Some (codes "standard output failed")
failure_words (Ok NoMemory) = Some (codes "not enough memory")
failure_words (Ok status) = None
failure_words (Err (none.Refused cause)) = Some (codes "the arguments can't be had")
failure_words (Err none.NoMemory) = Some (codes "not enough memory")
