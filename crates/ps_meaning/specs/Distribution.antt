-- Distributions over worlds, by whole weights.
use Rattle.std.specs.Prelude.{◌≡◌, ◌≢◌, ℕ, ℤ, pos, ◌+ℤ◌, ◌≤ℤ◌, ◌<◌, List, [], ◌∷◌, if◌then◌else◌, length, All, AllPairs}
use Rattle.ps_meaning.specs.Formula.{World, Formula, Truth, is_true}

-- a world and its weight
pub record Entry : Type 0 where
  pub weight : ℤ
  pub world : World

-- the weight of the worlds in which a formula is true
abbrev pub weight : List Entry → Formula ℕ → ℤ
weight [] f = pos 0
weight (e ∷ d) f = (if is_true f e.world then e.weight else pos 0) +ℤ weight d f

-- the weight of all worlds
abbrev pub total : List Entry → ℤ
total d = weight d Truth

-- a distribution over the worlds of some atoms: at least one world, none twice, each of a weight of at least 1
pub record IsDistribution (atoms : ℕ) (d : List Entry) : Type 0 where
  pub some : 0 < length d
  pub worlds : All (λ e. length e.world ≡ atoms) d
  pub weighed : All (λ e. pos 1 ≤ℤ e.weight) d
  pub different : AllPairs (λ e e'. e.world ≢ e'.world) d
