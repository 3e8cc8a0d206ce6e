-- What contracts see of a log that writes lines.
use Rattle.std.specs.Prelude.{ℕ, List, [], ◌∷◌, Bool, not, Result}
use Rattle.std.specs.Borrow.{GName}
use Rattle.ps_io.specs.Lines.{sink_of, name_of}
use Rattle.ps_io.specs.declared.lines.Lines.{Lines}
use Rattle.ps_io.specs.declared.sink.Sink.{Ghosts}
use Rattle.ps_io.specs.Wrote.{Wrote}
use Rattle.ps_log.specs.Logs.{Telling}
use Rattle.ps_log.specs.Told.{told_in}
use Rattle.ps_log.specs.declared.error.LogError.{LogError}
use Rattle.ps_log.specs.declared.text_log.TextLog.{TextLog}

module _ {O : Type 0} {sink : Ghosts O} where
  -- the lines that it writes
  abbrev pub lines_of : TextLog O sink → Lines O
  lines_of log = log.lines

  -- no write has failed
  abbrev pub is_unbroken : TextLog O sink → Bool
  is_unbroken log = not log.broken

  -- which reference to the sink it holds
  abbrev pub reference_of : TextLog O sink → GName
  reference_of log = name_of log.lines

  -- how often it was begun
  abbrev pub begins_of : TextLog O sink → ℕ
  begins_of log = log.begins

  -- how often a write to its sink has failed
  abbrev pub faults_of : TextLog O sink → ℕ
  faults_of log = sink.faults (sink_of log.lines)

  -- the goal and the steps that its bytes tell
  abbrev pub told_by : TextLog O sink → Telling
  told_by log = told_in (sink.written (sink_of log.lines))

  -- one line was written, or a proper prefix of it where the count of faults rose
  abbrev pub WroteLine : TextLog O sink → TextLog O sink → Result (Unit {0}) LogError → List ℕ → Type 0
  WroteLine old new result line = Wrote sink.written sink.faults old.lines new.lines result (line ∷ [])
