use Rattle.ps_formula.proofs.Different.{trees-at, different_trees}
use Rattle.ps_formula.proofs.formulas.one_tree_each.Goals as goal

pub returns-clause-own : goal.returns-clause-own
returns-clause-own c = λ ns are. record { over_operands = λ i d lt. trees-at ns are i d lt }

pub returns-clause-different : goal.returns-clause-different
returns-clause-different c = λ ns are. different_trees ns are
