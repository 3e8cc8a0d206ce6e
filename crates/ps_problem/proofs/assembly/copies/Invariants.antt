use Rattle.std.proofs.Common.{◌≡◌, map, take}
use Rattle.ps_problem.specs.Problems.{name_at}
use Rattle.ps_problem.proofs.assembly.copies.Given as goal

abbrev pub invariant-loop-number : goal.invariant-loop-number
invariant-loop-number l = map (λ v. v.items) l.texts ≡ map (name_at l.names) (take l.number-index l.numbers)
