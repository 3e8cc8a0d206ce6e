-- Rounding by long division: a quotient and its rest tell the decimals on both sides.
use Rattle.std.proofs.Common.{◌≡◌, ◌≢◌, ℕ, ◌+◌, ◌*◌, ◌^◌, ◌<◌, ◌≤◌, ◌/◌, ◌%◌, min, zero, suc, ℤ, pos, negsuc, ◌≤ℤ◌, unsigned_abs, add-one, sym, refl, ap, ◌∙◌, arith}
use Rattle.std.proofs.lemmas.Int.{ints, unsigned_abs-mul}
use Rattle.std.proofs.Math.Nat.{mul-le-mul_right, le_of_mul-le-mul_right, lt_of_mul-lt-mul_right, pow-suc, pow-le-pow_right, div-eq_of_lt, add-mul-div_left, add-mul-mod_self_left, mod-eq_of_lt, div-add-mod, mod-lt}
use Rattle.ps_meaning.specs.Rational.{Rational}
use Rattle.ps_meaning.specs.Order.{IsNonneg, AtMost}
use Rattle.ps_meaning.proofs.Cross.{quotient_cross}
use Rattle.ps_meaning.proofs.Order.{at_most_from_cross, cross_from_at_most, less_of, nonneg_of}
use Rattle.ps_frac.specs.DecimalLaws.{DecimalsContainTheirFraction}
use Rattle.ps_frac.specs.Decimals.{Decimal, HasDecimals, IsRoundedDown, IsRoundedUp, number_of, rounded_down as floor_of, rounded_up, ten_to}

-- ---- the order of p/c = u/d and a/b is that of u * b and a * d
below_from : (u d p c a b : ℕ) → 0 < d → p * d ≡ u * c → u * b ≤ a * d → p * b ≤ a * c
below_from u d p c a b hd e h =
    let l : u * b * c ≤ a * d * c = mul-le-mul_right c h in
    let k : p * b * d ≤ a * c * d = omega (arith, l, ap (λ n. n * b) e) in
    le_of_mul-le-mul_right k hd

below_back : (u d p c a b : ℕ) → 0 < c → p * d ≡ u * c → p * b ≤ a * c → u * b ≤ a * d
below_back u d p c a b hc e h =
    let l : p * b * d ≤ a * c * d = mul-le-mul_right d h in
    let k : u * b * c ≤ a * d * c = omega (arith, l, ap (λ n. n * b) e) in
    le_of_mul-le-mul_right k hc

above_from : (u d p c a b : ℕ) → 0 < d → p * d ≡ u * c → a * d ≤ u * b → a * c ≤ p * b
above_from u d p c a b hd e h =
    let l : a * d * c ≤ u * b * c = mul-le-mul_right c h in
    let k : a * c * d ≤ p * b * d = omega (arith, l, ap (λ n. n * b) e) in
    le_of_mul-le-mul_right k hd

above_back : (u d p c a b : ℕ) → 0 < c → p * d ≡ u * c → a * c ≤ p * b → a * d ≤ u * b
above_back u d p c a b hc e h =
    let l : a * c * d ≤ p * b * d = mul-le-mul_right d h in
    let k : a * d * c ≤ u * b * c = omega (arith, l, ap (λ n. n * b) e) in
    le_of_mul-le-mul_right k hc

-- ---- the same of a decimal and a fraction that is at least 0
nonneg_is : (z : ℤ) → pos 0 ≤ℤ z → z ≡ pos (unsigned_abs z)
nonneg_is (pos n) h = refl
nonneg_is (negsuc n) h = absurd (omega (arith, ints))

-- a number that is at least 0, by its parts
record Terms (x : Rational) : Type 0 where
  is : x.over ≡ pos (unsigned_abs x.over)
  positive : 0 < x.under

terms : (x : Rational) → IsNonneg x → Terms x
terms x h = record { is = nonneg_is x.over h; positive = x.lowest.positive }

decimal_terms : (u n : ℕ) → Terms (number_of u n)
decimal_terms u n = terms (number_of u n) (nonneg_of (pos u) (ten_to n) (omega (arith, ints)))

decimal_cross : (u n : ℕ) → unsigned_abs (number_of u n).over * 10 ^ n ≡ u * (number_of u n).under
decimal_cross u n =
    sym (unsigned_abs-mul (number_of u n).over (pos (10 ^ n)))
    ∙ ap unsigned_abs (quotient_cross (pos u) (ten_to n))
    ∙ unsigned_abs-mul (pos u) (pos (number_of u n).under)

-- the order of whole numbers that are at least 0
pos_le : (a b : ℕ) → a ≤ b → pos a ≤ℤ pos b
pos_le a b h = omega (arith, ints, h)

le_pos : (a b : ℕ) → pos a ≤ℤ pos b → a ≤ b
le_pos a b h = omega (arith, ints, h)

-- cross products of numbers that are at least 0
at_most_by : (x y : Rational) → Terms x → Terms y → unsigned_abs x.over * y.under ≤ unsigned_abs y.over * x.under → AtMost x y
at_most_by x y s t h = at_most_from_cross x y (rw (s.is, t.is) (pos_le _ _ h))

products_of : (x y : Rational) → Terms x → Terms y → AtMost x y → unsigned_abs x.over * y.under ≤ unsigned_abs y.over * x.under
products_of x y s t h =
    let k = cross_from_at_most x y h in
    let m = rw (s.is, t.is) at k in
    le_pos _ _ m

module _ (x : Rational) (h : IsNonneg x) where
  decimal_below : (u n : ℕ) → u * x.under ≤ unsigned_abs x.over * 10 ^ n → AtMost (number_of u n) x
  decimal_below u n k =
      let q = number_of u n in
      at_most_by q x (decimal_terms u n) (terms x h)
      (below_from u (10 ^ n) (unsigned_abs q.over) q.under (unsigned_abs x.over) x.under (ten_to n).positive (decimal_cross u n) k)

  below_decimal : (u n : ℕ) → AtMost (number_of u n) x → u * x.under ≤ unsigned_abs x.over * 10 ^ n
  below_decimal u n k =
      let q = number_of u n in
      below_back u (10 ^ n) (unsigned_abs q.over) q.under (unsigned_abs x.over) x.under (decimal_terms u n).positive (decimal_cross u n)
      (products_of q x (decimal_terms u n) (terms x h) k)

  decimal_above : (u n : ℕ) → unsigned_abs x.over * 10 ^ n ≤ u * x.under → AtMost x (number_of u n)
  decimal_above u n k =
      let q = number_of u n in
      at_most_by x q (terms x h) (decimal_terms u n)
      (above_from u (10 ^ n) (unsigned_abs q.over) q.under (unsigned_abs x.over) x.under (ten_to n).positive (decimal_cross u n) k)

  above_decimal : (u n : ℕ) → AtMost x (number_of u n) → unsigned_abs x.over * 10 ^ n ≤ u * x.under
  above_decimal u n k =
      let q = number_of u n in
      above_back u (10 ^ n) (unsigned_abs q.over) q.under (unsigned_abs x.over) x.under (decimal_terms u n).positive (decimal_cross u n)
      (products_of x q (terms x h) (decimal_terms u n) k)

-- ---- quotient and rest
less_product : (u v b : ℕ) → u < v → u * b + b ≤ v * b
less_product u v b h = let k : (u + 1) * b ≤ v * b = mul-le-mul_right b (omega arith) in omega (arith, k)

-- a quotient whose rest is below the divisor is rounded down
pub rounded_down : (x : Rational) (d : Decimal) (r : ℕ) → IsNonneg x → d.units * x.under + r ≡ unsigned_abs x.over * 10 ^ d.digits → r < x.under → IsRoundedDown x d
rounded_down x d r h e k = record {
  at_most = decimal_below x h d.units d.digits (omega (arith, e));
  greatest = λ v m. less_of x (number_of v d.digits) (λ l.
      let f = below_decimal x h v d.digits l in
      let g = less_product d.units v x.under m in
      omega (arith, e, k, f, g));
}

-- a quotient without a rest is rounded up
pub exact_up : (x : Rational) (d : Decimal) → IsNonneg x → d.units * x.under ≡ unsigned_abs x.over * 10 ^ d.digits → IsRoundedUp x d
exact_up x d h e = record {
  at_least = decimal_above x h d.units d.digits (omega (arith, e));
  least = λ v m. less_of (number_of v d.digits) x (λ l.
      let f = above_decimal x h v d.digits l in
      let g = less_product v d.units x.under m in
      let p = x.lowest.positive in
      omega (arith, e, f, g, p));
}

-- a quotient with a rest, and one more, is rounded up
pub next_up : (x : Rational) (d : Decimal) (q r : ℕ) → IsNonneg x → d.units ≡ q + 1 → q * x.under + r ≡ unsigned_abs x.over * 10 ^ d.digits → 0 < r → r < x.under → IsRoundedUp x d
next_up x d q r h o e s k = record {
  at_least = decimal_above x h d.units d.digits
      (let g = less_product q d.units x.under (omega (arith, o)) in omega (arith, e, k, g));
  least = λ v m. less_of (number_of v d.digits) x (λ l.
      let f = above_decimal x h v d.digits l in
      let g : v * x.under ≤ q * x.under = mul-le-mul_right x.under (omega (arith, m, o)) in
      omega (arith, e, s, f, g));
}

-- ---- how great a quotient is
pub most_units : (q r b a d : ℕ) → q * b + r ≡ a * d → 0 < b → a ≤ b → q ≤ d
most_units q r b a d e p h =
    let k : a * d ≤ b * d = mul-le-mul_right d h in
    let l : q * b ≤ d * b = omega (arith, e, k) in
    le_of_mul-le-mul_right l p

pub fewer_units : (q r b a d : ℕ) → q * b + r ≡ a * d → 0 < r → a ≤ b → q < d
fewer_units q r b a d e s h =
    let k : a * d ≤ b * d = mul-le-mul_right d h in
    let l : q * b < d * b = omega (arith, e, k, s) in
    lt_of_mul-lt-mul_right b l

-- a power of ten of few digits
pub few_units : (q i : ℕ) → q ≤ 10 ^ i → i ≤ 18 → q ≤ 10 ^ 18
few_units q i h k = let p : 10 ^ i ≤ 10 ^ 18 = pow-le-pow_right (omega arith) k in omega (arith, h, p)

-- one more digit
pub next_same : (q r b a i n m : ℕ) → q * b + r ≡ a * 10 ^ i → n * b + m ≡ (q * b + r) * 10 → n * b + m ≡ a * 10 ^ (i + 1)
next_same q r b a i n m e f =
    let p : 10 ^ (i + 1) ≡ 10 ^ i * 10 = ap (λ k. 10 ^ k) (add-one i) ∙ pow-suc 10 i in
    f ∙ ap (λ k. k * 10) e ∙ sym (ap (λ k. a * k) p ∙ omega arith)

-- a quotient and its rest are those of the numbers
floor_is : (q b r m : ℕ) → q * b + r ≡ m → r < b → m / b ≡ q
floor_is q b r m e h =
    let f : m ≡ r + b * q = omega (arith, e) in
    let z : r / b ≡ 0 = div-eq_of_lt h in
    let g : m / b ≡ r / b + q = ap (λ k. k / b) f ∙ add-mul-div_left r q (omega (arith, h)) in
    g ∙ omega (arith, z)

mod_is : (q b r m : ℕ) → q * b + r ≡ m → r < b → m % b ≡ r
mod_is q b r m e h =
    let f : m ≡ r + b * q = omega (arith, e) in
    ap (λ k. k % b) f ∙ add-mul-mod_self_left r b q ∙ mod-eq_of_lt h

-- decimals of the same units and digits are equal
decimal_is : (d e : Decimal) → d.units ≡ e.units → d.digits ≡ e.digits → d ≡ e
decimal_is d e p q = λ i. record { units = p i; digits = q i }

-- ---- the same as the code has it
module _ (x : Rational) (d : Decimal) (over under q n r : ℕ) (h : IsNonneg x) (o : over ≡ unsigned_abs x.over) (u : under ≡ x.under) (s : q * under + r ≡ over * 10 ^ n) (k : r < under) where
  pub down_by : d.units ≡ q → d.digits ≡ n → IsRoundedDown x d
  down_by e f = rounded_down x d r h (rw (e, f, sym u, sym o) s) (rw (sym u) k)

  pub exact_up_by : r ≡ 0 → d.units ≡ q → d.digits ≡ n → IsRoundedUp x d
  exact_up_by z e f = exact_up x d h (rw (e, f, sym u, sym o) (omega (arith, s, z)))

  pub next_up_by : r ≢ 0 → d.units ≡ q + 1 → d.digits ≡ n → IsRoundedUp x d
  next_up_by z e f = next_up x d q r h e (rw (f, sym u, sym o) s) (omega (arith, z)) (rw (sym u) k)

  pub fewer_by : r ≢ 0 → unsigned_abs x.over ≤ x.under → q + 1 ≤ 10 ^ n
  fewer_by z m =
      let f : q < 10 ^ n = fewer_units q r under over (10 ^ n) s (omega (arith, z)) (rw (o, u) m) in
      omega (arith, f)

  units_are : unsigned_abs x.over * 10 ^ n / x.under ≡ q
  units_are = rw (sym o, sym u) (floor_is q under r (over * 10 ^ n) s k)

  rest_is : (unsigned_abs x.over * 10 ^ n) % x.under ≡ r
  rest_is = rw (sym o, sym u) (mod_is q under r (over * 10 ^ n) s k)

  pub down_value : d.units ≡ q → d.digits ≡ n → d ≡ floor_of x n
  down_value e f = decimal_is d (floor_of x n) (e ∙ sym units_are) f

  pub exact_value : r ≡ 0 → d.units ≡ q → d.digits ≡ n → d ≡ rounded_up x n
  exact_value z e f = decimal_is d (rounded_up x n) (let a = units_are in let b = rest_is in omega (arith, e, z, a, b)) f

  pub next_value : r ≢ 0 → d.units ≡ q + 1 → d.digits ≡ n → d ≡ rounded_up x n
  next_value z e f = decimal_is d (rounded_up x n) (let a = units_are in let b = rest_is in omega (arith, e, z, a, b)) f

-- ---- the decimals of a fraction
module _ (x : Rational) (n : ℕ) (h : HasDecimals x) where
  abbrev scaled : ℕ
  scaled = unsigned_abs x.over * 10 ^ n

  divides : scaled / x.under * x.under + scaled % x.under ≡ scaled
  divides = let e = div-add-mod scaled x.under in omega (arith, e)

  rest_below : scaled % x.under < x.under
  rest_below = mod-lt scaled x.lowest.positive

  down_law : IsRoundedDown x (floor_of x n)
  down_law = rounded_down x (floor_of x n) (scaled % x.under) h.nonneg divides rest_below

  up_law : IsRoundedUp x (rounded_up x n)
  up_law = by (scaled % x.under) refl
    where
      by : (r : ℕ) → scaled % x.under ≡ r → IsRoundedUp x (rounded_up x n)
      by zero e =
          let u : scaled / x.under + min 1 (scaled % x.under) ≡ scaled / x.under = omega (arith, e) in
          exact_up x (rounded_up x n) h.nonneg (ap (λ k. k * x.under) u ∙ (let f = divides in omega (arith, e, f)))
      by (suc r) e =
          let u : scaled / x.under + min 1 (scaled % x.under) ≡ scaled / x.under + 1 = omega (arith, e) in
          next_up x (rounded_up x n) (scaled / x.under) (scaled % x.under) h.nonneg u divides (omega (arith, e)) rest_below

pub contain_law : DecimalsContainTheirFraction
contain_law x n h = (down_law x n h, up_law x n h)
