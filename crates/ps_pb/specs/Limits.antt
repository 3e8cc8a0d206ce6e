-- The limits of literals and of constraints.
use Rattle.std.specs.Prelude.{ℕ, ◌≤◌, ◌^◌, ℤ, unsigned_abs}
use Rattle.ps_pb.specs.declared.limits.TheConstants.{MOST_VARIABLES}

-- what the sizes of weights, and of what they are to sum to at least, sum to at most
abbrev pub most_weight : ℕ
most_weight = 2 ^ 125

-- the number of a literal: its size is that of a variable
abbrev pub IsLiteral : ℤ → Type 0
IsLiteral l = (1 ≤ unsigned_abs l) × (unsigned_abs l ≤ MOST_VARIABLES)
