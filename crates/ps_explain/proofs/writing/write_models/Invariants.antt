use Rattle.std.proofs.Common.{take, Ok}
use Rattle.ps_io.specs.Wrote.{Wrote}
use Rattle.ps_io.specs.declared.sink.WriteFault.{WriteFault}
use Rattle.ps_explain.specs.Texts.{models_lines}
use Rattle.ps_explain.proofs.writing.write_models.Given as goal

abbrev pub invariant-loop-i : goal.invariant-loop-i
invariant-loop-i g l = Wrote {E = WriteFault} g.O.Sink.written g.O.Sink.faults l.initial.lines l.lines (Ok tt) (models_lines (take l.i l.sentences) (take l.i l.without))
