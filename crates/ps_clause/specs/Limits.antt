-- The limit of clauses.
use Rattle.std.specs.Prelude.{ℕ, ◌-◌, ◌^◌}

-- so many clauses a form has at most
abbrev pub most_clauses : ℕ
most_clauses = 2 ^ 32 - 1
