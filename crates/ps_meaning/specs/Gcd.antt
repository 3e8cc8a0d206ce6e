-- The greatest common divisor and the least common multiple of two numbers.
use Rattle.std.specs.Prelude.{ℕ, zero, suc, ◌%◌, ◌/◌, ◌*◌, ◌<◌}
use Rattle.std.specs.Int.{◌∣◌}

-- the greatest common divisor, if that many of Euclid's steps are enough
unfoldable pub gcd_within : ℕ → ℕ → ℕ → ℕ
gcd_within zero a b = a
gcd_within (suc steps) a zero = a
gcd_within (suc steps) a (suc b) = gcd_within steps (suc b) (a % suc b)

-- the greatest common divisor: as many steps as b and one more are enough
unfoldable pub gcd : ℕ → ℕ → ℕ
gcd a b = gcd_within (suc b) a b

-- a multiple of both numbers that divides every common multiple of them
pub record IsLeastCommonMultiple (a b m : ℕ) : Type 0 where
  pub left : a ∣ m
  pub right : b ∣ m
  pub least : (k : ℕ) → a ∣ k → b ∣ k → m ∣ k

-- the least common multiple
abbrev pub lcm : ℕ → ℕ → ℕ
lcm a b = (a / gcd a b) * b

-- the least common multiple of d 0 to d (n - 1), and 1 for none
abbrev pub lcm_to : ℕ → (ℕ → ℕ) → ℕ
lcm_to zero d = 1
lcm_to (suc n) d = lcm (lcm_to n d) (d n)

-- each of d 0 to d (n - 1) is above 0
abbrev pub ArePositive : ℕ → (ℕ → ℕ) → Type 0
ArePositive n d = (i : ℕ) → i < n → 0 < d i

-- a number is a multiple of each of d 0 to d (n - 1)
abbrev pub IsMultipleOfEach : ℕ → (ℕ → ℕ) → ℕ → Type 0
IsMultipleOfEach n d m = (i : ℕ) → i < n → d i ∣ m
