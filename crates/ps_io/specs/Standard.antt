-- What contracts see of standard input and output.
use Rattle.std.specs.Prelude.{ℕ, Bool}
use Rattle.ps_io.specs.declared.std_source.StdSource.{StdSource}
use Rattle.ps_io.specs.declared.std_sink.StdSink.{StdSink}

-- how often a read has failed
abbrev pub read_faults : {R : Type 0} → StdSource R → ℕ
read_faults source = source.faults

-- how often a write has failed
abbrev pub write_faults : {W : Type 0} → StdSink W → ℕ
write_faults sink = sink.faults

-- whether bytes that were written may still be held back
abbrev pub is_pending : {W : Type 0} → StdSink W → Bool
is_pending sink = sink.writer.pending
