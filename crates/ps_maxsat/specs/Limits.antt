-- The limits of a search for the greatest value.
use Rattle.std.specs.Prelude.{ℕ, ◌+◌, ◌<◌, ◌≤◌, unsigned_abs, All}
use Rattle.ps_pb.specs.Assignments.{place}
use Rattle.ps_pb.specs.Weights.{size_sum}
use Rattle.ps_maxsat.specs.declared.limits.TheConstants.{MOST_TOTAL}
use Rattle.ps_maxsat.specs.declared.problem.Wcnf.{Wcnf}

-- so many searches are made at most
abbrev pub most_searches : ℕ
most_searches = 124

-- the weights and the base are small enough that no sum of them wraps
abbrev pub IsNarrow : Wcnf → Type 0
IsNarrow p = size_sum p.soft + unsigned_abs p.base ≤ MOST_TOTAL

-- the soft literals are of the variables of the clauses
abbrev pub IsSoftWithin : Wcnf → Type 0
IsSoftWithin p = All (λ t. place t.0 < p.hard.variables) p.soft
