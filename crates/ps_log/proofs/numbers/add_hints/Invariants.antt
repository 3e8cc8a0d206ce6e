use Rattle.std.proofs.Common.{take}
use Rattle.ps_io.specs.Lines.{text_of}
use Rattle.ps_log.specs.Lines.{HoldsLine}
use Rattle.ps_log.specs.Texts.{with_numbers, hint_numbers}
use Rattle.ps_log.proofs.numbers.add_hints.Given as goal

abbrev pub invariant-loop-hint : goal.invariant-loop-hint
invariant-loop-hint g l = HoldsLine l.initial.lines l.lines (with_numbers (text_of l.initial.lines) (hint_numbers (take l.hint-index l.hints)))
