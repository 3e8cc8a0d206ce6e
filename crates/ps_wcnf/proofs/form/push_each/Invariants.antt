use Rattle.std.proofs.Common.{◌≡◌, ◌++◌, map, take}
use Rattle.ps_wcnf.proofs.form.push_each.Given as goal

abbrev pub invariant-loop-lit : goal.invariant-loop-lit
invariant-loop-lit l = l.literals ≡ l.initial.literals ++ map (λ x. (x, l.weight)) (take l.lit-index l.lits)
