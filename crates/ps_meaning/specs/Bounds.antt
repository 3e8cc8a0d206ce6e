-- Bounds on probabilities, and the distributions that meet them.
use Rattle.std.specs.Prelude.{◌≡◌, ℕ, ℤ, pos, ◌+ℤ◌, ◌*ℤ◌, ◌≤ℤ◌, List, [], ◌∷◌, All}
use Rattle.ps_meaning.specs.declared.side.Side.{Side}
use Rattle.ps_meaning.specs.declared.side.Side.TheVariants.{AtLeast, AtMost, Exactly}
use Rattle.ps_meaning.specs.Formula.{Formula, And}
use Rattle.ps_meaning.specs.Distribution.{Entry, weight, total, IsDistribution}

-- the probability of a formula, given a condition, against num/den; the condition is truth where nothing is given
pub record PlainBound : Type 0 where
  pub formula : Formula ℕ
  pub given : Formula ℕ
  pub side : Side
  pub num : ℤ
  pub den : ℤ

-- formulas with whole numbers
abbrev pub Weights : Type 0
Weights = List (Formula ℕ × ℤ)

-- the sum of the probabilities of formulas, each times its number, against a whole number
pub record LinearBound : Type 0 where
  pub terms : Weights
  pub side : Side
  pub right : ℤ

-- a bound on one probability, or on a sum of them
pub data Bound : Type 0 where
  Plain : (plain : PlainBound) → Bound
  Linear : (linear : LinearBound) → Bound

-- the first number is on the right side of the second
abbrev pub Compares : Side → ℤ → ℤ → Type 0
Compares AtLeast x y = y ≤ℤ x
Compares AtMost x y = x ≤ℤ y
Compares Exactly x y = x ≡ y

-- the distribution meets the bound, in product form: where the condition weighs nothing every bound is met
abbrev pub MeetsPlain : PlainBound → List Entry → Type 0
MeetsPlain b d = Compares b.side (b.den *ℤ weight d (And b.formula b.given)) (b.num *ℤ weight d b.given)

-- the weights of formulas, each times its number
abbrev pub sum_of_weights : Weights → List Entry → ℤ
sum_of_weights [] d = pos 0
sum_of_weights (t ∷ ts) d = (t.1 *ℤ weight d t.0) +ℤ sum_of_weights ts d

-- the sum of the weights, each times its number, compares with the right side times the total
abbrev pub MeetsLinear : LinearBound → List Entry → Type 0
MeetsLinear b d = Compares b.side (sum_of_weights b.terms d) (b.right *ℤ total d)

-- the distribution meets the bound
abbrev pub MeetsBound : Bound → List Entry → Type 0
MeetsBound (Plain b) d = MeetsPlain b d
MeetsBound (Linear b) d = MeetsLinear b d

-- the distribution meets each bound
abbrev pub MeetsAll : List Bound → List Entry → Type 0
MeetsAll bounds d = All (λ b. MeetsBound b d) bounds

-- a distribution over the worlds of some atoms that meets each bound
pub record IsModelOf (atoms : ℕ) (bounds : List Bound) (d : List Entry) : Type 0 where
  pub distribution : IsDistribution atoms d
  pub met : MeetsAll bounds d
