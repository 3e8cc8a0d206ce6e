-- The fields of a trail.
use Rattle.std.specs.Prelude.{ℕ, ◌≡◌, ◌≤◌, ◌<◌, ◌^◌, List, length, take}
use Rattle.ps_pb.specs.Assignments.{Assignment}
use Rattle.ps_learn.specs.Trails.{TrailEntry, Trail, values_of, decisions, AreFresh, AreLevels}

-- the trail of the first entries
abbrev pub trail_of : Assignment → List TrailEntry → ℕ → Trail
trail_of a slots used = record { variables = length a; entries = take used slots }

-- the first entries are the trail
pub record IsTrail (a : Assignment) (slots : List TrailEntry) (used level : ℕ) : Type 0 where
  pub values : a ≡ values_of (length a) (take used slots)
  pub fresh : AreFresh (length a) (take used slots)
  pub levels : AreLevels (take used slots)
  pub level_is : level ≡ decisions (take used slots)
  pub room : length slots ≡ length a
  pub within : used ≤ length slots
  pub narrow : length a < 2 ^ 32
