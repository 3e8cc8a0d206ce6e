use Rattle.std.proofs.Common.{rules}
use Rattle.ps_problem.specs.Problems.{AreParts}
use Rattle.ps_explain.proofs.Models.{core_found}
use Rattle.ps_explain.proofs.irreducible.explained_by.Goals as goal

pub returns-in_ok-numbers_of-in-Found : goal.returns-in_ok-numbers_of-in-Found
returns-in_ok-numbers_of-in-Found g c =
    let are : AreParts c.args.means.now.trials.now = search rules in
    core_found c.args.means.now.limits c.args.means.now.trials.now c.args.core c.in_ok-numbers_of-in-Found.field-0 c.in-Found.without are c.requires.conflict
    (rw c.as_slice.ensures at c.in_ok-numbers_of-in-Found.ensures) (rw c.in-Found.is at c.in_ok-without.ensures)
