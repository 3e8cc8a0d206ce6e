-- How far apart values lie.
use Rattle.std.specs.Prelude.{ℕ, unsigned_abs, All}
use Rattle.std.specs.Int.{◌∣◌}
use Rattle.ps_pb.specs.Weights.{Weighted}

-- a number divides each weight
abbrev pub DividesWeights : ℕ → Weighted → Type 0
DividesWeights d ts = All (λ t. d ∣ unsigned_abs t.1) ts

-- the greatest common divisor of the weights, which is 0 where each weight is 0
pub record IsUnit (ts : Weighted) (unit : ℕ) : Type 0 where
  pub divides : DividesWeights unit ts
  pub greatest : (d : ℕ) → DividesWeights d ts → d ∣ unit
