-- The multipliers of all bounds, by those of the kept ones.
use Rattle.std.specs.Prelude.{◌≡◌, ◌+◌, ℕ, ℤ, pos, Bool, true, false, if◌then◌else◌, List, [], ◌∷◌, get_or}
use Rattle.ps_problem.specs.Problems.{Parts}
use Rattle.ps_runs.specs.Kept.{flags_of, kept_parts, IsChoice}

-- in order those of the kept bounds, and 0 for each other
abbrev pub spread_of : List Bool → List ℤ → List ℤ
spread_of [] ys = []
spread_of (false ∷ ks) ys = pos 0 ∷ spread_of ks ys
spread_of (true ∷ ks) [] = pos 0 ∷ spread_of ks []
spread_of (true ∷ ks) (y ∷ ys) = y ∷ spread_of ks ys

-- the number of bound i, where the next kept one's is at this place
abbrev pub number_for : List Bool → ℕ → List ℤ → ℕ → ℤ
number_for flags i ys next = if get_or flags i false then get_or ys next (pos 0) else pos 0

-- the place of the next kept one's behind it
abbrev pub next_for : List Bool → ℕ → ℕ → ℕ
next_for flags i next = if get_or flags i false then next + 1 else next

-- a problem has the kept sentences of the whole one alone, and the flags tell which bounds of the whole one are kept
pub record IsKeptOf (whole : Parts) (flags : List Bool) (p : Parts) : Type 0 where
  pub kept : List Bool
  pub each : IsChoice kept whole
  pub flags_are : flags ≡ flags_of kept whole.sentences
  pub parts : p ≡ kept_parts kept whole
