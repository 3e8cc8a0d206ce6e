-- Worlds by their numbers.
use Rattle.std.specs.Prelude.{ℕ, zero, suc, ◌≡◌, ◌≢◌, Bool, List, AllPairs, Option, Some, None, slice_get}

-- the world of a number, from 1
abbrev pub world_of : List (List Bool) → ℕ → Option (List Bool)
world_of worlds zero = None
world_of worlds (suc i) = slice_get worlds i

-- the world has this number, from 1
abbrev pub HasNumber : List (List Bool) → List Bool → ℕ → Type 0
HasNumber worlds world number = world_of worlds number ≡ Some world

-- no world stands twice
abbrev pub AreDifferent : List (List Bool) → Type 0
AreDifferent worlds = AllPairs (λ u v. u ≢ v) worlds
