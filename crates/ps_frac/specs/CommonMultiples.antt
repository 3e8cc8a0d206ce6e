-- Least common multiples of signed numbers.
use Rattle.std.specs.Prelude.{ℤ, pos, unsigned_abs}
use Rattle.ps_meaning.specs.Gcd.{lcm, IsLeastCommonMultiple}

-- the least common multiple of the sizes
abbrev pub lcm_of : ℤ → ℤ → ℤ
lcm_of a b = pos (lcm (unsigned_abs a) (unsigned_abs b))

-- the size of m is a common multiple of the sizes of a and b, and divides each common multiple of them
abbrev pub IsLcm : ℤ → ℤ → ℤ → Type 0
IsLcm a b m = IsLeastCommonMultiple (unsigned_abs a) (unsigned_abs b) (unsigned_abs m)
