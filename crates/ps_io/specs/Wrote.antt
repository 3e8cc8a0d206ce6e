-- What a call does that writes lines through a writer of lines.
use Rattle.std.specs.Prelude.{◌≡◌, ℕ, List, [], Option, Result, OnOk, OnErr}
use Rattle.ps_io.specs.Causes.{CountsFault}
use Rattle.ps_io.specs.LineText.{lines_bytes}
use Rattle.ps_io.specs.Lines.{text_of, is_commented, sink_of, name_of}
use Rattle.ps_io.specs.Transfer.{Appends, AppendsPrefix}
use Rattle.ps_io.specs.declared.lines.Lines.{Lines}

-- lines of these texts were written, or a proper prefix of them where a write failed; the line is then empty
pub record Wrote {O E : Type 0} (written : O → Option (List ℕ)) (faults : O → ℕ) (old new : Lines O)
    (result : Result (Unit {0}) E) (texts : List (List ℕ)) : Type 0 where
  pub same_reference : name_of new ≡ name_of old
  pub same_mark : is_commented new ≡ is_commented old
  pub empty : text_of new ≡ []
  pub ok : OnOk result (Appends (written (sink_of old)) (written (sink_of new)) (lines_bytes (is_commented old) texts))
  pub counted : CountsFault result (faults (sink_of old)) (faults (sink_of new))
  pub prefix : OnErr result (AppendsPrefix (written (sink_of old)) (written (sink_of new)) (lines_bytes (is_commented old) texts))
