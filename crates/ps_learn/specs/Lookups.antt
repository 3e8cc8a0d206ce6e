-- What a trail answers.
use Rattle.std.specs.Prelude.{ℕ, ℤ, Option, Some, None, slice_get}
use Rattle.ps_learn.specs.Trails.{TrailEntry, Trail, entry_of}

-- the level of an entry, if there is one
abbrev pub level_in : Option TrailEntry → Option ℕ
level_in None = None
level_in (Some e) = Some e.level

-- the reason of an entry, if there is one
abbrev pub reason_in : Option TrailEntry → Option ℕ
reason_in None = None
reason_in (Some e) = e.reason

-- the literal of an entry, if there is one
abbrev pub lit_in : Option TrailEntry → Option ℤ
lit_in None = None
lit_in (Some e) = Some e.lit

-- the level of a variable, by its number
abbrev pub level_of : ℕ → Trail → Option ℕ
level_of var t = level_in (entry_of var t.entries)

-- what forced a variable
abbrev pub reason_of : ℕ → Trail → Option ℕ
reason_of var t = reason_in (entry_of var t.entries)

-- the literal at a place
abbrev pub lit_at : ℕ → Trail → Option ℤ
lit_at place t = lit_in (slice_get t.entries place)
