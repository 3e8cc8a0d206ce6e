-- How far distributions miss rows, and the least of what they miss in all.
use Rattle.std.specs.Prelude.{◌≡◌, ℕ, suc, ◌+◌, ℤ, pos, negsuc, unsigned_abs, ◌*ℤ◌, ◌≤ℤ◌, List, [], ◌∷◌}
use Rattle.std.specs.List.{AllZip}
use Rattle.ps_meaning.specs.Distribution.{Entry, total, IsDistribution}
use Rattle.ps_meaning.specs.declared.side.Side.{Side}
use Rattle.ps_meaning.specs.declared.side.Side.TheVariants.{AtLeast, AtMost, Exactly}
use Rattle.ps_meaning.specs.Rows.{Row, row_in, weighted_sum}
use Rattle.ps_meaning.specs.Rational.{Rational}

-- how far a number is from its side of 0
abbrev pub missed_by : Side → ℤ → ℕ
missed_by AtLeast (pos k) = 0
missed_by AtLeast (negsuc k) = suc k
missed_by AtMost (pos k) = k
missed_by AtMost (negsuc k) = 0
missed_by Exactly z = unsigned_abs z

-- how far the sum of a row over a distribution is from the row's side of 0
abbrev pub miss : Row → List Entry → ℕ
miss r d = missed_by r.side (weighted_sum d (row_in r))

-- what a distribution misses of rows in all
abbrev pub missed : List Row → List Entry → ℕ
missed [] d = 0
missed (r ∷ rs) d = miss r d + missed rs d

-- by rows that count in one over a unit, the widening of a row in a distribution is what it misses over unit times total, and
-- that of the distribution is the sum of these: it is the value
abbrev pub HasWidening : ℕ → List Row → Rational → List Entry → Type 0
HasWidening unit rows value d = (value.over *ℤ (pos unit *ℤ total d)) ≡ (pos value.under *ℤ pos (missed rows d))

-- the widening of a distribution is at least the value
abbrev pub IsWidenedAtLeast : ℕ → List Row → Rational → List Entry → Type 0
IsWidenedAtLeast unit rows value d = (value.over *ℤ (pos unit *ℤ total d)) ≤ℤ (pos value.under *ℤ pos (missed rows d))

-- a distribution over the worlds of some atoms has the value as its widening, and none has less
pub record IsLeastWidening (atoms unit : ℕ) (rows : List Row) (value : Rational) (d : List Entry) : Type 0 where
  pub distribution : IsDistribution atoms d
  pub widening : HasWidening unit rows value d
  pub least : (e : List Entry) → IsDistribution atoms e → IsWidenedAtLeast unit rows value e

-- a distribution meets a row that is widened by x over den: its mean is on the row's side of 0, or off it by no more than that
-- part of the unit
abbrev pub MeetsWidened : ℕ → ℕ → List Entry → Row → ℕ → Type 0
MeetsWidened unit den d r x = (pos den *ℤ pos (miss r d)) ≤ℤ (pos x *ℤ (pos unit *ℤ total d))

-- it meets each of the rows, each widened by its own number over den
abbrev pub MeetsAllWidened : ℕ → ℕ → List Row → List ℕ → List Entry → Type 0
MeetsAllWidened unit den rows xs d = AllZip (MeetsWidened unit den d) rows xs
