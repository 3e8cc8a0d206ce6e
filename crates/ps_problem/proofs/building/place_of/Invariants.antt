use Rattle.std.proofs.Common.{◌≡◌, ◌+◌, nat_eq, drop}
use Rattle.ps_problem.specs.Numbering.{place_in}
use Rattle.ps_problem.proofs.building.place_of.Given as goal

abbrev pub invariant-loop-i : goal.invariant-loop-i
invariant-loop-i l = l.i + place_in nat_eq (drop l.i l.numbers) l.n ≡ place_in nat_eq l.numbers l.n
