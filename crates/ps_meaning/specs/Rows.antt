-- Rows over the worlds, the bounds that are such, and sums over a distribution.
use Rattle.std.specs.Prelude.{◌↔◌, ℤ, pos, neg_ℤ, ◌+ℤ◌, ◌-ℤ◌, ◌*ℤ◌, ℕ, List, [], ◌∷◌, if◌then◌else◌}
use Rattle.ps_meaning.specs.Formula.{World, Formula, And, is_true}
use Rattle.ps_meaning.specs.Distribution.{Entry}
use Rattle.ps_meaning.specs.declared.side.Side.{Side}
use Rattle.ps_meaning.specs.Bounds.{PlainBound, Weights, LinearBound, Bound, Plain, Linear, Compares, MeetsBound}

-- 1 where a formula is true, else 0
abbrev pub indicator : Formula ℕ → World → ℤ
indicator f w = if is_true f w then pos 1 else pos 0

-- a plain bound's row in a world: its denominator where formula and condition are true, less its numerator where the condition is
abbrev pub row_value : PlainBound → World → ℤ
row_value b w = (b.den *ℤ indicator (And b.formula b.given) w) -ℤ (b.num *ℤ indicator b.given w)

-- the sum over the worlds of a distribution of a function's value, each world by its weight
abbrev pub weighted_sum : List Entry → (World → ℤ) → ℤ
weighted_sum [] F = pos 0
weighted_sum (e ∷ d) F = (e.weight *ℤ F e.world) +ℤ weighted_sum d F

-- a row: the side of 0 on which its sum over a distribution is to be, a number that always counts, and numbers that count where
-- their formulas are true
pub record Row : Type 0 where
  pub side : Side
  pub base : ℤ
  pub terms : Weights

-- the sum of the numbers whose formulas are true in a world
abbrev pub terms_in : Weights → World → ℤ
terms_in [] w = pos 0
terms_in (t ∷ ts) w = (t.1 *ℤ indicator t.0 w) +ℤ terms_in ts w

-- what a row has in a world
abbrev pub row_in : Row → World → ℤ
row_in r w = r.base +ℤ terms_in r.terms w

-- the distribution meets the row
abbrev pub MeetsRow : Row → List Entry → Type 0
MeetsRow r d = Compares r.side (weighted_sum d (row_in r)) (pos 0)

-- the row of a bound: of a plain one the denominator where formula and condition are true, less the numerator where the condition
-- is; of a linear one its numbers where their formulas are true, less the right side
abbrev pub row_of : Bound → Row
row_of (Plain b) = record { side = b.side; base = pos 0; terms = (And b.formula b.given, b.den) ∷ (b.given, neg_ℤ b.num) ∷ [] }
row_of (Linear b) = record { side = b.side; base = neg_ℤ b.right; terms = b.terms }

-- each bound is met exactly where its row is
abbrev pub BoundsAreRows : Type 0
BoundsAreRows = (b : Bound) (d : List Entry) → MeetsBound b d ↔ MeetsRow (row_of b) d
