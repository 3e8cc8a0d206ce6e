-- Least common multiples are at least the numbers.
use Rattle.std.proofs.Common.{ℕ, zero, suc, ◌*◌, ◌/◌, ◌<◌, ◌≤◌, arith}
use Rattle.std.proofs.Math.Nat.{mul-pos}
use Rattle.ps_meaning.specs.Coprime.{gcd_is}
use Rattle.ps_meaning.specs.Parts.{part_pos}
use Rattle.ps_meaning.specs.Gcd.{gcd, lcm}
use Rattle.ps_meaning.specs.declared.limits.TheConstants.{PRINTED_LIMIT}

times_above : (k b : ℕ) → 0 < k → b ≤ k * b
times_above zero b h = absurd (omega (arith, h))
times_above (suc k) b h = omega arith

quotient_above : (a b : ℕ) → 0 < a → 0 < a / gcd a b
quotient_above a b h = part_pos a (gcd a b) h (gcd_is a b).0

pub lcm_above : (a b : ℕ) → 0 < a → 0 < b → 0 < lcm a b
lcm_above a b ha hb = mul-pos (quotient_above a b ha) hb

-- where a number is too large to be printed, so is its least common multiple with another
pub past_multiple : (a b : ℕ) → 0 < a → PRINTED_LIMIT < b → ¬ (lcm a b ≤ PRINTED_LIMIT)
past_multiple a b ha hb h = let p : b ≤ lcm a b = times_above (a / gcd a b) b (quotient_above a b ha) in omega (arith, p, hb, h)
