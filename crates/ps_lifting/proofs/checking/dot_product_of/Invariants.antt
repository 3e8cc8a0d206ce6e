use Rattle.std.proofs.Common.{◌≡◌, drop, ◌+ℤ◌}
use Rattle.ps_lifting.specs.Systems.{dot_product}
use Rattle.ps_lifting.proofs.checking.dot_product_of.Given as goal

abbrev pub invariant-loop-j : goal.invariant-loop-j
invariant-loop-j l = l.sum +ℤ dot_product (drop l.j l.row) (drop l.j l.x) ≡ dot_product l.row l.x
