-- The limits of runs that are begun again and again while time is left.
use Rattle.std.specs.Prelude.{ℕ, ◌+◌, ◌*◌, ◌/◌, ◌^◌, ◌==◌, if◌then◌else◌, min}
use Rattle.ps_runs.specs.declared.limits.Limits.{Limits}
use Rattle.ps_guess.specs.declared.turns.TheConstants.{FIRST_PIVOTS, FIRST_CONFLICTS, MOST_TURNS}

-- the limits of a turn before the last one: the pivots are doubled each turn and the conflicts each other turn, as far as
-- the greatest
abbrev pub turn_limits : Limits → ℕ → Limits
turn_limits most turn = record {
  pivots = min (FIRST_PIVOTS * 2 ^ turn) most.pivots;
  conflicts = min (FIRST_CONFLICTS * 2 ^ (turn / 2)) most.conflicts;
}

-- the limits of a turn: of the last one the greatest
abbrev pub limits_in : Limits → ℕ → Limits
limits_in most turn = if turn + 1 == MOST_TURNS then most else turn_limits most turn
