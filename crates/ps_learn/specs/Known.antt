-- The ids of known constraints.
use Rattle.std.specs.Prelude.{ℕ, ◌-◌, ◌≤◌}
use Rattle.ps_pb.specs.declared.limits.TheConstants.{MOST_IDS}

-- so many constraints are known at most, so that the id of one more is within the limit of ids
abbrev pub most_known : ℕ
most_known = MOST_IDS - 1

-- the id of one of so many constraints
abbrev pub IsIdUpTo : ℕ → ℕ → Type 0
IsIdUpTo n id = (1 ≤ id) × (id ≤ n)
