-- A bound in its sentence, as it is shown.
use Rattle.ps_problem.specs.declared.bound_at.BoundAt.{BoundAt}
use Rattle.ps_problem.specs.declared.bound_at.BoundAt.TheVariants as at
use Rattle.ps_problem.specs.Problems.{BoundIn, PlainIn, LinearIn}

-- the bound that is shown
abbrev pub shown : BoundAt → BoundIn
shown (at.Plain b) = PlainIn b.now
shown (at.Linear l upper) = LinearIn l.now upper
