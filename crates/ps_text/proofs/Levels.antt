-- Comparing levels.
use Rattle.std.proofs.Common.{◌≡◌, ℕ, ◌<◌, ◌≤◌, true, false, arith}
use Rattle.std.proofs.lemmas.Bool.Decides.{nat_tests}
use Rattle.std.specs.Prelude.{nat_le, nat_lt}

pub test_le : (k n : ℕ) → nat_le k n ≡ true → k ≤ n
test_le k n h = grind (arith, nat_tests)

pub test_lt : (k n : ℕ) → nat_le k n ≡ false → n < k
test_lt k n h = grind (arith, nat_tests)

pub test_past : (k n : ℕ) → nat_le k n ≡ false → nat_lt n k ≡ true
test_past k n h = grind (arith, nat_tests)

pub test_true : (k n : ℕ) → k ≤ n → nat_le k n ≡ true
test_true k n h = grind (arith, nat_tests)

pub test_false : (k n : ℕ) → n < k → nat_le k n ≡ false
test_false k n h = grind (arith, nat_tests)
