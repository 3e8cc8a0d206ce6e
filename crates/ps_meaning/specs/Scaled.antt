-- Whole multiples of rational numbers.
use Rattle.std.specs.Prelude.{ℕ, ◌/◌, ℤ, pos, ◌*ℤ◌}
use Rattle.ps_meaning.specs.Rational.{Rational}

-- big times x, where big is a multiple of the denominator of x
abbrev pub scaled : ℕ → Rational → ℤ
scaled big x = x.over *ℤ pos (big / x.under)
