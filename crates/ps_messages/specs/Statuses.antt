-- The numbers of statuses.
use Rattle.std.specs.Prelude.{ℕ}
use Rattle.ps_messages.specs.declared.status.Status.{Status}
use Rattle.ps_messages.specs.declared.status.Status.TheVariants.{Done, Inconsistent, Usage, Unreadable, Unfinished}
use Rattle.ps_messages.specs.declared.status.Status.TheVariants.{ReadFault, WriteFault, NoMemory, Refused}

-- the number of a status, which is the exit code
abbrev pub status_number : Status → ℕ
status_number Done = 0
status_number Inconsistent = 1
status_number Usage = 2
status_number Unreadable = 3
status_number Unfinished = 4
status_number ReadFault = 5
status_number WriteFault = 6
status_number NoMemory = 7
status_number Refused = 8
