use Rattle.std.proofs.Common.{◌≡◌, map, take}
use Rattle.ps_answer.specs.Words.{digit_of}
use Rattle.ps_report.proofs.words.push_digits.Given as goal

abbrev pub invariant-loop-value : goal.invariant-loop-value
invariant-loop-value l = l.word.items ≡ map digit_of (take l.value-index l.values)
