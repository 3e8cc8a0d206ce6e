-- What the laws of rational numbers and of sums say.
use Rattle.std.specs.Prelude.{◌≡◌, ◌≢◌, ◌⊎◌, ◌↔◌, ℕ, suc, ◌+◌, ◌<◌, ℤ, pos, ◌+ℤ◌, ◌*ℤ◌, ◌≤ℤ◌, List, ◌∷◌, ◌++◌, All}
use Rattle.std.specs.Int.{◌∣◌}
use Rattle.ps_meaning.specs.Gcd.{lcm, lcm_to, IsLeastCommonMultiple, ArePositive, IsMultipleOfEach}
use Rattle.ps_meaning.specs.Rational.{Rational, add, mul, neg, sub, whole, zero_q}
use Rattle.ps_meaning.specs.Scaled.{scaled}
use Rattle.ps_meaning.specs.Wide.{Fits, size_limit, ProductIsWide, SumIsWide}
use Rattle.ps_meaning.specs.Order.{IsNonneg, AtMost, IsLess}
use Rattle.ps_meaning.specs.Sums.{sum_to, sum_of}

-- a commutative ring
pub record CommutativeRing {R : Type 0} (add mul : R → R → R) (neg : R → R) (nought one : R) : Type 0 where
  pub add_assoc : (x y z : R) → add (add x y) z ≡ add x (add y z)
  pub add_comm : (x y : R) → add x y ≡ add y x
  pub add-zero : (x : R) → add x nought ≡ x
  pub add-neg : (x : R) → add x (neg x) ≡ nought
  pub mul_assoc : (x y z : R) → mul (mul x y) z ≡ mul x (mul y z)
  pub mul_comm : (x y : R) → mul x y ≡ mul y x
  pub mul-one : (x : R) → mul x one ≡ x
  pub add-mul : (x y z : R) → mul (add x y) z ≡ add (mul x z) (mul y z)

-- an order that is total, and kept by sums and by products with numbers of at least 0
pub record IsOrdered : Type 0 where
  pub total : (x y : Rational) → AtMost x y ⊎ AtMost y x
  pub transitive : (x y z : Rational) → AtMost x y → AtMost y z → AtMost x z
  pub antisymmetric : (x y : Rational) → AtMost x y → AtMost y x → x ≡ y
  pub sums : (x y z w : Rational) → AtMost x y → AtMost z w → AtMost (add x z) (add y w)
  pub products : (x y z : Rational) → AtMost x y → IsNonneg z → AtMost (mul x z) (mul y z)
  pub cross : (x y : Rational) → AtMost x y ↔ ((x.over *ℤ pos y.under) ≤ℤ (y.over *ℤ pos x.under))
  pub less : (x y : Rational) → IsLess x y ↔ (¬ AtMost y x)

-- sums of rational numbers
pub record SumsOfRationals : Type 0 where
  pub same : (n : ℕ) (f g : ℕ → Rational) → ((i : ℕ) → i < n → f i ≡ g i) → sum_to n f ≡ sum_to n g
  pub scaled : (n : ℕ) (c : Rational) (f : ℕ → Rational) → mul c (sum_to n f) ≡ sum_to n (λ i. mul c (f i))
  pub added : (n : ℕ) (f g : ℕ → Rational) → sum_to n (λ i. add (f i) (g i)) ≡ add (sum_to n f) (sum_to n g)
  pub subtracted : (n : ℕ) (f g : ℕ → Rational) → sum_to n (λ i. sub (f i) (g i)) ≡ sub (sum_to n f) (sum_to n g)
  pub swapped : (n m : ℕ) (f : ℕ → ℕ → Rational) → sum_to n (λ i. sum_to m (λ k. f i k)) ≡ sum_to m (λ k. sum_to n (λ i. f i k))
  pub split : (a b : ℕ) (f : ℕ → Rational) → sum_to (suc (a + b)) f ≡ add (sum_to (suc a) f) (sum_to b (λ k. f (suc (a + k))))
  pub single : (n p : ℕ) (f : ℕ → Rational) → p < n → ((i : ℕ) → i ≢ p → f i ≡ zero_q) → sum_to n f ≡ f p

-- weighted sums of signed whole numbers over the items of lists
pub record WeightedSums (A B : Type 0) : Type 0 where
  pub appended : (w : A → ℤ) (xs ys : List A) → sum_of w (xs ++ ys) ≡ sum_of w xs +ℤ sum_of w ys
  pub scaled : (c : ℤ) (w : A → ℤ) (xs : List A) → c *ℤ sum_of w xs ≡ sum_of (λ x. c *ℤ w x) xs
  pub added : (v w : A → ℤ) (xs : List A) → sum_of (λ x. v x +ℤ w x) xs ≡ sum_of v xs +ℤ sum_of w xs
  pub swapped : (f : A → B → ℤ) (xs : List A) (ys : List B)
      → sum_of (λ x. sum_of (f x) ys) xs ≡ sum_of (λ y. sum_of (λ x. f x y) xs) ys
  pub single : (w : A → ℤ) (xs ys : List A) (x : A) → All (λ y. w y ≡ pos 0) xs → All (λ y. w y ≡ pos 0) ys
      → sum_of w (xs ++ x ∷ ys) ≡ w x
  pub ordered : (v w : A → ℤ) (xs : List A) → All (λ x. v x ≤ℤ w x) xs → sum_of v xs ≤ℤ sum_of w xs

-- the least common multiple of two numbers, and of positive numbers one after the other, which is positive
pub record CommonMultiples : Type 0 where
  pub two : (a b : ℕ) → 0 < b → IsLeastCommonMultiple a b (lcm a b)
  pub positive : (n : ℕ) (d : ℕ → ℕ) → ArePositive n d → 0 < lcm_to n d
  pub multiple : (n : ℕ) (d : ℕ → ℕ) → ArePositive n d → IsMultipleOfEach n d (lcm_to n d)
  pub least : (n : ℕ) (d : ℕ → ℕ) (m : ℕ) → ArePositive n d → IsMultipleOfEach n d m → lcm_to n d ∣ m

-- a multiple of a denominator makes a whole number, and whole numbers are told apart
pub record ScaledNumbers : Type 0 where
  pub value : (big : ℕ) (x : Rational) → x.under ∣ big → whole (scaled big x) ≡ mul (whole (pos big)) x
  pub whole_tells : (y z : ℤ) → whole y ≡ whole z → y ≡ z

-- no named number of a product with 0 is too large, and none of a sum or difference of a number that fits and 0
pub record ZerosAreNarrow : Type 0 where
  pub left : (y : Rational) → ¬ ProductIsWide zero_q y
  pub right : (x : Rational) → ¬ ProductIsWide x zero_q
  pub sum : (x : Rational) → Fits x.over → x.under < size_limit → ¬ SumIsWide x zero_q
  pub difference : (x : Rational) → Fits x.over → x.under < size_limit → ¬ SumIsWide x (neg zero_q)
