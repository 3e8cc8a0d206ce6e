-- Why nothing is asked for, and the number after it.
use Rattle.std.specs.Prelude.{ℕ}
use Rattle.std.specs.declared.io.ErrorKind.{ErrorKind}
use Rattle.std.specs.declared.io.ErrorKind.TheVariants as error
use Rattle.ps_ask.specs.Statuses.{status_number}
use Rattle.ps_ask.specs.declared.status.Status.TheVariants as status
use Rattle.psat_ask.specs.declared.refused.Refused.{Refused}
use Rattle.psat_ask.specs.declared.refused.Refused.TheVariants.{Wrong, Unknown, Misspelt, MisspeltKind}
use Rattle.psat_ask.specs.declared.refused.Refused.TheVariants.{NotText, NoWords, NoMemory}

-- why the system doesn't hand out the words, by the kind of its error
abbrev pub refused_by : ErrorKind → Refused
refused_by error.InvalidData = NotText
refused_by error.OutOfMemory = NoMemory
refused_by kind = NoWords

-- the number with which the program exits where nothing is asked for: 2 where its words are wrong, and 10 where the system
-- doesn't hand them out
abbrev pub refused_number : Refused → ℕ
refused_number (Wrong fault) = 2
refused_number (Unknown option) = 2
refused_number (Misspelt option meant) = 2
refused_number (MisspeltKind kind meant) = 2
refused_number NotText = 10
refused_number NoWords = 10
refused_number NoMemory = status_number status.NoMemory
