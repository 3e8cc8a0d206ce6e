-- The levels of literals.
use Rattle.std.specs.Prelude.{ℕ, ◌≡◌, ◌≤◌, ◌<◌, max, ℤ, Option, Some, None, List, [], ◌∷◌, ◌++◌, length, unsigned_abs, All}
use Rattle.ps_learn.specs.Trails.{TrailEntry, Trail, level, entry_of}

-- the level of an entry; 0 where there is none
abbrev pub level_or_zero : Option TrailEntry → ℕ
level_or_zero None = 0
level_or_zero (Some e) = e.level

-- the level of a literal's variable; 0 where it isn't set
abbrev pub level_at : List TrailEntry → ℤ → ℕ
level_at es l = level_or_zero (entry_of (unsigned_abs l) es)

-- the greatest level of some literals; 0 where there are none
abbrev pub greatest_level : List TrailEntry → List ℤ → ℕ
greatest_level es [] = 0
greatest_level es (l ∷ ls) = max (level_at es l) (greatest_level es ls)

-- all of the literals but one at most are below the trail's level, and `next` is their greatest level; none is at level 0; a
-- literal of the trail's level may stand last, or none
pub record IsAsserting (t : Trail) (lits : List ℤ) (next : ℕ) : Type 0 where
  pub others : List ℤ
  pub last : List ℤ
  pub split : lits ≡ others ++ last
  pub one : length last ≤ 1
  pub above : All (λ l. 1 ≤ level_at t.entries l) lits
  pub below : All (λ l. level_at t.entries l < level t) others
  pub next_is : next ≡ greatest_level t.entries others
