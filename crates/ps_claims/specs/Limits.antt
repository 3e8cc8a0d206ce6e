-- How large the numbers of a combination are.
use Rattle.std.specs.Prelude.{ℕ, ◌^◌}

-- the most that the sizes in a combination by a dual of printed numbers sum to
abbrev pub most_combination : ℕ
most_combination = 2 ^ 120
