use Rattle.std.proofs.Common.{◌≡◌, ◌+◌, ◌*◌, ◌≤◌, map, take, drop}
use Rattle.ps_problem.specs.Scales.{sizes_at, coefficient_of}
use Rattle.ps_problem.proofs.scale.sizes.Given as goal

abbrev pub invariant-loop-term : goal.invariant-loop-term
invariant-loop-term l = (l.sum ≤ 1000000000000000000 * l.term-index)
    × (l.sum + sizes_at l.scale (map coefficient_of (drop l.term-index l.terms)) ≡ sizes_at l.scale (map coefficient_of l.terms))
