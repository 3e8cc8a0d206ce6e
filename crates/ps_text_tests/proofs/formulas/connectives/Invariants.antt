use Rattle.std.proofs.Common.{◌≤◌, length}
use Rattle.std.specs.List.{All}
use Rattle.ps_formula.specs.Nodes.{AtomBelow}
use Rattle.ps_text_tests.proofs.formulas.connectives.Given as goal

abbrev pub invariant-loop-i : goal.invariant-loop-i
invariant-loop-i l = record {
  two : 2 ≤ length l.formulas;
  atoms : All (AtomBelow 2) l.formulas;
}
