use Rattle.ps_generation.specs.Rows.{AreProducts}
use Rattle.ps_generation.proofs.multipliers.products.Given as goal

abbrev pub invariant-loop-i : goal.invariant-loop-i
invariant-loop-i l = AreProducts l.numbers l.multiple l.i l.made
