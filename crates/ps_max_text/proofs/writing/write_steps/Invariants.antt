use Rattle.std.proofs.Common.{map, take, Ok}
use Rattle.ps_log.specs.Texts.{step_line}
use Rattle.ps_max_text.proofs.Sequence.{WroteLines}
use Rattle.ps_max_text.proofs.writing.write_steps.Given as goal

abbrev pub invariant-loop-step : goal.invariant-loop-step
invariant-loop-step g l = WroteLines g.O.Sink l.initial.lines l.lines (Ok tt) (map step_line (take l.step-index l.steps))
