-- Powers of ten.
use Rattle.std.proofs.Common.{ℕ, ◌^◌, ◌<◌, arith}
use Rattle.std.proofs.Math.Nat.{one-le-pow}

-- a power of ten is above 0
pub ten_to_is_positive : (n : ℕ) → 0 < 10 ^ n
ten_to_is_positive n = one-le-pow n 10 (omega arith)
