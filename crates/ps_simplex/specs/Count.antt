-- The ways to choose some of many things.
use Rattle.std.specs.Prelude.{ℕ, zero, suc, ◌+◌, ◌*◌}

-- how many ways there are to choose k of n things
unfoldable pub choose : ℕ → ℕ → ℕ
choose n zero = 1
choose zero (suc k) = 0
choose (suc n) (suc k) = choose n k + choose n (suc k)

-- three times the ways to choose one thing more than rows, of one thing more than rows and worlds
abbrev pub enough_ways : ℕ → ℕ → ℕ
enough_ways rows worlds = 3 * choose (rows + worlds + 1) (rows + 1)
