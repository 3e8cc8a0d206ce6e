use Rattle.std.proofs.Common.{◌+ℤ◌}
use Rattle.ps_problem.specs.declared.limits.TheConstants.{MOST_SIZES}
use Rattle.ps_problem.specs.Rows.{terms_over}
use Rattle.ps_problem.proofs.RowSums.{IsSumTo}
use Rattle.ps_problem.proofs.row.sum_from.Given as goal

abbrev pub invariant-loop-term : goal.invariant-loop-term
invariant-loop-term l = IsSumTo l.truth l.terms l.term-index (l.base +ℤ terms_over l.truth l.terms) MOST_SIZES l.sum
