use Rattle.ps_claims.proofs.CombinationSums.{AreTermsAdded}
use Rattle.ps_claims.proofs.combining.add_terms.Given as goal

abbrev pub invariant-loop-term : goal.invariant-loop-term
invariant-loop-term l = AreTermsAdded l.initial.sum l.multiplier l.terms l.term-index l.sum
