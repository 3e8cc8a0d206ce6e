-- Steps and goals, and their faults.
use Rattle.std.specs.Prelude.{ℕ, List, Result}
use Rattle.ps_log.specs.FirstLines.{IsFirstLine}
use Rattle.ps_log.specs.Spellings.{words_of}
use Rattle.ps_log.specs.declared.line_error.LineError.{LineError}
use Rattle.ps_log.specs.declared.line_error.LineError.TheVariants as why
use Rattle.ps_answer.specs.declared.item.LineItem.{LineItem}
use Rattle.ps_answer.specs.declared.part.Part.{Part}
use Rattle.ps_reader.specs.Read.{IsItemRead}
use Rattle.ps_reader.specs.declared.line_fault.LineFault.{LineFault}
use Rattle.ps_reader.specs.declared.line_fault.LineFault.TheVariants.{NotCanonical, TooLarge, NoMemory}

-- what is answered of the words of the first line, where a part is due
abbrev pub IsFirstItemRead : Part → List ℕ → Result LineItem LineFault → Type 0
IsFirstItemRead p bytes result = (line rest : List ℕ) → IsFirstLine bytes line rest → IsItemRead p (words_of line) result

-- a byte that no such line has makes it no such line
abbrev pub fault_of : LineError → LineFault
fault_of why.Truncated = NotCanonical
fault_of why.BadByte = NotCanonical
fault_of why.NotCanonical = NotCanonical
fault_of why.TooLarge = TooLarge
fault_of why.NoMemory = NoMemory
