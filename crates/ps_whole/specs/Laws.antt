-- What the laws of rows of whole numbers say.
use Rattle.std.specs.Prelude.{◌≡◌, ◌≢◌, ℕ, ◌*◌, ◌<◌, ◌^◌, ℤ, pos, ◌+ℤ◌, ◌*ℤ◌, neg_ℤ, unsigned_abs}
use Rattle.ps_meaning.specs.Rational.{Positive, quotient, mul, sub, div, zero_q}
use Rattle.ps_meaning.specs.Wide.{SumIsWide, ProductIsWide, size_limit}

-- laws
pub record RowLaws : Type 0 where
  pub cell : (N c P a R s V : ℤ) (d e r m D : Positive) (by : ℕ) → quotient a e ≢ zero_q
      → R *ℤ a ≡ P *ℤ pos r.value → s *ℤ pos r.value ≡ c *ℤ pos m.value
      → V *ℤ pos by ≡ N *ℤ pos m.value +ℤ neg_ℤ (s *ℤ R) → D.value * by ≡ d.value * m.value
      → quotient V D ≡ sub (quotient N d) (mul (quotient c d) (div (quotient P e) (quotient a e)))
  pub sums : (z w : ℤ) (E : Positive) → unsigned_abs z < 2 ^ 126 → unsigned_abs w < 2 ^ 126 → E.value < size_limit
      → ¬ SumIsWide (quotient z E) (quotient w E)
  pub products : (z w : ℤ) (d e : Positive) → unsigned_abs z * unsigned_abs w < size_limit → d.value * e.value < size_limit
      → ¬ ProductIsWide (quotient z d) (quotient w e)
