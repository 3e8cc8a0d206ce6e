-- What holds of ranks.
use Rattle.std.specs.Prelude.{ℕ, ◌≡◌, ◌<◌, ◌^◌, Some, None, List, ◌∷◌, ◌++◌, length}
use Rattle.ps_learn.specs.Trails.{TrailEntry, rank}

-- there are fewer ranks than 2 to the number of variables
abbrev pub RanksAreBounded : Type 0
RanksAreBounded = (n : ℕ) (es : List TrailEntry) → rank n es < 2 ^ n

-- the rank rises where an implied literal takes the place of a decided one, whatever stands behind
abbrev pub RanksRise : Type 0
RanksRise = (n : ℕ) (front : List TrailEntry) (d y : TrailEntry) (rest more : List TrailEntry) (id : ℕ)
    → length front < n → d.reason ≡ None → y.reason ≡ Some id
    → rank n (front ++ d ∷ rest) < rank n (front ++ y ∷ more)
