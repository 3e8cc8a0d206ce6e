use Rattle.std.proofs.Common.{◌≡◌, ◌<◌, ◌≤◌, map, drop}
use Rattle.ps_problem.specs.declared.limits.TheConstants.{GREATEST_SCALE}
use Rattle.ps_problem.specs.Scales.{lcm_with, scale_within, den_of}
use Rattle.ps_problem.proofs.scale.over_terms.Given as goal

abbrev pub invariant-loop-term : goal.invariant-loop-term
invariant-loop-term l = (0 < l.all) × (l.all ≤ GREATEST_SCALE)
    × (scale_within (lcm_with l.all (map den_of (drop l.term-index l.terms))) ≡ scale_within (lcm_with l.scale (map den_of l.terms)))
