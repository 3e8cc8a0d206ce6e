use Rattle.std.proofs.Common.{take}
use Rattle.ps_io.specs.Lines.{text_of}
use Rattle.ps_log.specs.Lines.{HoldsLine}
use Rattle.ps_log.specs.Texts.{with_numbers, term_numbers}
use Rattle.ps_log.proofs.numbers.add_terms.Given as goal

abbrev pub invariant-loop-term : goal.invariant-loop-term
invariant-loop-term g l = HoldsLine l.initial.lines l.lines (with_numbers (text_of l.initial.lines) (term_numbers (take l.term-index l.terms)))
