use Rattle.std.proofs.Common.{◌≡◌, take}
use Rattle.ps_widening.specs.Units.{scaled_terms}
use Rattle.ps_widening.proofs.scaling.scaled_terms.Given as goal

abbrev pub invariant-loop-term : goal.invariant-loop-term
invariant-loop-term l = l.scaled ≡ scaled_terms l.fn.factor (take l.term-index l.terms)
