use Rattle.std.proofs.Common.{◌≡◌, ◌+◌, drop}
use Rattle.ps_problem.specs.Problems.{terms_size}
use Rattle.ps_problem.specs.Rows.{row_size}
use Rattle.ps_widening.proofs.units.size_of.Given as goal

abbrev pub invariant-loop-term : goal.invariant-loop-term
invariant-loop-term l = l.sum + terms_size (drop l.term-index l.row.terms) ≡ row_size l.row
