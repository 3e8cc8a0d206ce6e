-- What contracts see of a writer of lines.
use Rattle.std.specs.Prelude.{ℕ, List, length, Bool, Option, Result}
use Rattle.std.specs.Borrow.{GName}
use Rattle.ps_io.specs.declared.lines.Lines.{Lines}
use Rattle.ps_io.specs.Causes.{CountsFault}
use Rattle.ps_io.specs.LineKept.{bytes_of}
use Rattle.ps_io.specs.Transfer.{Appends, AppendsPrefix}

module _ {O : Type 0} where
  -- the text of the line that is being made
  abbrev pub text_of : Lines O → List ℕ
  text_of lines = lines.line.text

  -- how many bytes the line that is being made has
  abbrev pub line_length : Lines O → ℕ
  line_length lines = length (text_of lines)

  -- whether a mark goes before each line
  abbrev pub is_commented : Lines O → Bool
  is_commented lines = lines.line.commented

  -- the sink as it stands
  abbrev pub sink_of : Lines O → O
  sink_of lines = lines.sink.now

  -- which reference to the sink it holds
  abbrev pub name_of : Lines O → GName
  name_of lines = lines.sink.ghost_name

  module _ (written : O → Option (List ℕ)) (old new : Lines O) where
    -- the sink took the line whole
    abbrev pub TookLine : Type 0
    TookLine = Appends (written (sink_of old)) (written (sink_of new)) (bytes_of old.line)

    -- the sink took a proper prefix of the line
    abbrev pub TookLinePrefix : Type 0
    TookLinePrefix = AppendsPrefix (written (sink_of old)) (written (sink_of new)) (bytes_of old.line)

  -- what an answer says of the sink's count of faults
  abbrev pub CountsSinkFault : {T E : Type 0} → (O → ℕ) → Lines O → Lines O → Result T E → Type 0
  CountsSinkFault faults old new result = CountsFault result (faults (sink_of old)) (faults (sink_of new))
