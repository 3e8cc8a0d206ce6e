use Rattle.std.proofs.Common.{◌+ℤ◌, ◌*ℤ◌}
use Rattle.ps_meaning.specs.Bounds.{sum_of_weights}
use Rattle.ps_valid.specs.Valuations.{atom_terms, valued_entries}
use Rattle.ps_valid.proofs.RowSums.{IsSumTo}
use Rattle.ps_valid.proofs.meeting.row_sum.Given as goal

abbrev pub invariant-loop-term : goal.invariant-loop-term
invariant-loop-term l = IsSumTo (valued_entries l.valued) l.terms l.term-index ((l.base *ℤ l.whole) +ℤ sum_of_weights (atom_terms l.terms) (valued_entries l.valued)) l.sum
