-- Fractions in lowest terms, and their whole numbers over a scale.
use Rattle.std.proofs.Common.{◌≡◌, ℕ, zero, suc, ◌+◌, ◌*◌, ◌/◌, ◌<◌, ◌≤◌, ℤ, pos, negsuc, neg_ℤ, ◌*ℤ◌, Bool, true, false, List, [], ◌∷◌, ◌++◌, length, map, option_map, All, IfSome, ◌||◌, Option, Some, None, refl, sym, ap, subst, ◌∙◌, arith}
use Rattle.std.specs.Prelude.{unsigned_abs, int_div, nat_lt, option_to_list, if◌then◌else◌}
use Rattle.std.specs.List.{list_any}
use Rattle.std.specs.Int.{◌∣◌, IsGcd}
use Rattle.std.proofs.lemmas.Int.{ints, unsigned_abs-mul}
use Rattle.std.proofs.lemmas.Bool.Decides.{nat_tests}
use Rattle.std.proofs.lemmas.List.Elements.{All-nil, All-cons, All-head, All-tail, All-append, All-map, All-weaker}
use Rattle.std.proofs.Math.Nat.{div-le_self, div-mul_cancel, mul-div_cancel, mul-div_cancel_left, dvd-mul_right, dvd_trans, pos_of_dvd_of_pos}
use Rattle.ps_meaning.specs.Gcd.{gcd, lcm}
use Rattle.ps_meaning.specs.Coprime.{gcd_is, is_gcd, IsGcd-scale}
use Rattle.ps_meaning.specs.Statements.{SignedRatio, Summand, LinearStatement}
use Rattle.ps_meaning.specs.declared.side.Side.{Side}
use Rattle.ps_meaning.specs.declared.side.Side.TheVariants.{AtLeast, AtMost, Exactly}
use Rattle.ps_meaning.proofs.IntRing.{neg-*ℤ}
use Rattle.ps_meaning.proofs.Multiples.{lcm_is}
use Rattle.ps_text.specs.Canonical.{IsReducedWeight, IsSumUpper}
use Rattle.ps_problem.specs.declared.limits.TheConstants.{GREATEST_SCALE, MOST_SIZES}
use Rattle.ps_problem.specs.Scales.{right_sides, coefficients, lcm_with, denominators, scale_of, scaled, size_at, sizes_at, is_wide, is_too_large, lowest}
use Rattle.ps_problem.specs.Drafts.{HasReducedNumbers}
use Rattle.ps_problem.proofs.Scales.{lcm_some, divides_with}
use Rattle.ps_problem.proofs.Lists.{or-false}

div_neg : (a k : ℕ) → int_div (neg_ℤ (pos a)) (pos k) ≡ neg_ℤ (pos (a / k))
div_neg zero k = let d = div-le_self zero k in let z : zero / k ≡ zero = omega (arith, d) in rw z refl
div_neg (suc a) k = refl

times_nat : (a b : ℕ) → pos a *ℤ pos b ≡ pos (a * b)
times_nat a b = refl

-- a product divided by one of its factors
div_back : (z : ℤ) (k : ℕ) → 0 < k → int_div (z *ℤ pos k) (pos k) ≡ z
div_back (pos n) k h = ap (λ x. int_div x (pos k)) (times_nat n k) ∙ ap pos (mul-div_cancel n h)
div_back (negsuc n) k h =
    ap (λ x. int_div x (pos k)) (neg-*ℤ (pos (suc n)) (pos k) ∙ ap neg_ℤ (times_nat (suc n) k))
    ∙ div_neg (suc n * k) k ∙ ap (λ x. neg_ℤ (pos x)) (mul-div_cancel (suc n) h)

-- a number divided by its greatest common divisor with another
pub quotient-some : (a m g : ℕ) → 0 < m → g ≡ gcd a m → 0 < m / g
quotient-some a m g some e =
    let whole : (m / gcd a m) * gcd a m ≡ m = div-mul_cancel (gcd a m) (gcd_is a m).1 in
    subst (λ k. 0 < m / k) (sym e) (pos_of_dvd_of_pos (subst (λ n. (m / gcd a m) ∣ n) whole (dvd-mul_right (m / gcd a m) (gcd a m))) some)

turned : (a b : ℕ) → a * b ≡ b * a
turned a b = omega arith

gcd_at : (a m k n d : ℕ) → a ≡ n * k → k * d ≡ m → IsGcd (k * n) (k * d) (k * 1) → IsGcd a m k
gcd_at a m k n d e f g =
    let one : k * 1 ≡ k = omega arith in
    subst (λ x. IsGcd x m k) (turned k n ∙ sym e) (subst (λ x. IsGcd (k * n) x k) f (subst (λ x. IsGcd (k * n) (k * d) x) one g))

-- a fraction in lowest terms is read back from its whole number over a scale that its denominator divides
pub lowest-back : (m : ℕ) (r : SignedRatio) → 0 < m → r.den ∣ m → IsReducedWeight r → lowest m (scaled m r) ≡ r
lowest-back m r some divides h =
    let whole : (m / r.den) * r.den ≡ m = div-mul_cancel r.den divides in
    let k : 0 < m / r.den = pos_of_dvd_of_pos (subst (λ n. (m / r.den) ∣ n) whole (dvd-mul_right (m / r.den) r.den)) some in
    let scale = IsGcd-scale (m / r.den) (unsigned_abs r.num) r.den 1 k h.lowest in
    let greatest = gcd_at (unsigned_abs (scaled m r)) m (m / r.den) (unsigned_abs r.num) r.den (unsigned_abs-mul r.num (pos (m / r.den))) whole scale in
    let g : gcd (unsigned_abs (scaled m r)) m ≡ m / r.den = sym (is_gcd (unsigned_abs (scaled m r)) m (m / r.den) greatest) in
    let n : int_div (scaled m r) (pos (gcd (unsigned_abs (scaled m r)) m)) ≡ r.num = ap (λ x. int_div (scaled m r) (pos x)) g ∙ div_back r.num (m / r.den) k in
    let d : m / gcd (unsigned_abs (scaled m r)) m ≡ r.den = ap (λ x. m / x) g ∙ ap (λ x. x / (m / r.den)) (sym whole) ∙ mul-div_cancel_left r.den k in
    λ i. record { num = n i; den = d i }

-- each denominator divides the scale over all of them
ratios_divide : (m : ℕ) (rs : List SignedRatio) → All IsReducedWeight rs → All (λ r. r.den ∣ lcm_with m (map (λ r. r.den) rs)) rs
ratios_divide m [] h = All-nil (λ r. r.den ∣ m)
ratios_divide m (r ∷ rs) h =
    let k = All-head IsReducedWeight r rs h in
    let rest = All-tail IsReducedWeight r rs h in
    let all = lcm_with (lcm m r.den) (map (λ s. s.den) rs) in
    All-cons (λ s. s.den ∣ all) r rs (dvd_trans r.den (lcm_is m r.den k.some).right (divides_with (lcm m r.den) (map (λ s. s.den) rs) (positive rs rest))) (ratios_divide (lcm m r.den) rs rest)
  where
    positive : (ss : List SignedRatio) → All IsReducedWeight ss → All (λ d. 0 < d) (map (λ s. s.den) ss)
    positive ss a = All-map (λ d. 0 < d) (λ s. s.den) ss (All-weaker IsReducedWeight (λ s. 0 < s.den) (λ s i. i.some) ss a)

scale_some : (m : ℕ) (rs : List SignedRatio) → 0 < m → All IsReducedWeight rs → 0 < lcm_with m (map (λ r. r.den) rs)
scale_some m [] some h = some
scale_some m (r ∷ rs) some h = scale_some (lcm m r.den) rs (lcm_some m r.den some (All-head IsReducedWeight r rs h).some) (All-tail IsReducedWeight r rs h)

-- parts of what all are
first_all : {X : Type 0} (P : X → Type 0) (xs ys : List X) → All P (xs ++ ys) → All P xs
first_all P [] ys h = All-nil P
first_all P (x ∷ xs) ys h = All-cons P x xs (All-head P x (xs ++ ys) h) (first_all P xs ys (All-tail P x (xs ++ ys) h))

rest_all : {X : Type 0} (P : X → Type 0) (xs ys : List X) → All P (xs ++ ys) → All P ys
rest_all P [] ys h = h
rest_all P (x ∷ xs) ys h = rest_all P xs ys (All-tail P x (xs ++ ys) h)

mapped_all : {X Y : Type 0} (P : Y → Type 0) (f : X → Y) (xs : List X) → All P (map f xs) → All (λ x. P (f x)) xs
mapped_all P f [] h = All-nil (λ x. P (f x))
mapped_all P f (x ∷ xs) h = All-cons (λ y. P (f y)) x xs (All-head P (f x) (map f xs) h) (mapped_all P f xs (All-tail P (f x) (map f xs) h))

option_all : {X : Type 0} (P : X → Type 0) (o : Option X) → All P (option_to_list o) → IfSome o P
option_all P None h = tt
option_all P (Some x) h = All-head P x [] h

-- an upper value stands with a least one, and is in order
pub upper_reduced : (on : Side) (o : Option SignedRatio) → IsSumUpper on o → IfSome o IsReducedWeight
upper_reduced on None h = tt
upper_reduced AtLeast (Some r) h = h
upper_reduced AtMost (Some r) h = absurd h
upper_reduced Exactly (Some r) h = absurd h

pub upper_side : (on : Side) (o : Option SignedRatio) → IsSumUpper on o → IfSome o (λ r. on ≡ AtLeast)
upper_side on None h = tt
upper_side AtLeast (Some r) h = refl
upper_side AtMost (Some r) h = absurd h
upper_side Exactly (Some r) h = absurd h

list_all : {X : Type 0} (P : X → Type 0) (o : Option X) → IfSome o P → All P (option_to_list o)
list_all P None h = All-nil P
list_all P (Some x) h = All-cons P x [] h (All-nil P)

-- the numbers of a linear statement divide its scale
pub record AreOver (s : LinearStatement) : Type 0 where
  pub some : 0 < scale_of s
  pub value : s.value.den ∣ scale_of s
  pub upper : IfSome s.upper (λ r. r.den ∣ scale_of s)
  pub terms : All (λ t. t.coefficient.den ∣ scale_of s) s.terms

pub are_over : (s : LinearStatement) → HasReducedNumbers s → AreOver s
are_over s h =
    let P : SignedRatio → Type 0 = λ r. r.den ∣ scale_of s in
    let all : All IsReducedWeight (right_sides s ++ coefficients s) = All-append IsReducedWeight (right_sides s) (coefficients s)
    (All-cons IsReducedWeight s.value (option_to_list s.upper) h.value (list_all IsReducedWeight s.upper (upper_reduced s.side s.upper h.upper)))
    (All-map IsReducedWeight (λ t. t.coefficient) s.terms h.coefficients) in
    let over : All P (right_sides s ++ coefficients s) = ratios_divide 1 (right_sides s ++ coefficients s) all in
    let rights = first_all P (right_sides s) (coefficients s) over in
    record {
      some = scale_some 1 (right_sides s ++ coefficients s) (omega arith) all;
      value = All-head P s.value (option_to_list s.upper) rights;
      upper = option_all P s.upper (All-tail P s.value (option_to_list s.upper) rights);
      terms = mapped_all P (λ t. t.coefficient) s.terms (rest_all P (right_sides s) (coefficients s) over);
    }

-- the sizes of a linear statement's whole numbers are within their limits
pub record AreNarrow (s : LinearStatement) : Type 0 where
  pub scale : scale_of s ≤ GREATEST_SCALE
  pub value : sizes_at (scale_of s) (coefficients s) + size_at (scale_of s) s.value ≤ MOST_SIZES
  pub upper : IfSome s.upper (λ r. sizes_at (scale_of s) (coefficients s) + size_at (scale_of s) r ≤ MOST_SIZES)

narrow : (m : ℕ) (cs : List SignedRatio) (r : SignedRatio) → is_wide m cs r ≡ false → sizes_at m cs + size_at m r ≤ MOST_SIZES
narrow m cs r e = grind (arith, nat_tests)

pub are_narrow : (s : LinearStatement) → is_too_large s ≡ false → AreNarrow s
are_narrow s e =
    let one = or-false (nat_lt GREATEST_SCALE (scale_of s)) (list_any (is_wide (scale_of s) (coefficients s)) (right_sides s)) e in
    let two = or-false (is_wide (scale_of s) (coefficients s) s.value) (list_any (is_wide (scale_of s) (coefficients s)) (option_to_list s.upper)) one.1 in
    record {
      scale = small (scale_of s) one.0;
      value = narrow (scale_of s) (coefficients s) s.value two.0;
      upper = by s.upper two.1;
    }
  where
    small : (m : ℕ) → nat_lt GREATEST_SCALE m ≡ false → m ≤ GREATEST_SCALE
    small m t = grind (arith, nat_tests)

    by : (o : Option SignedRatio) → list_any (is_wide (scale_of s) (coefficients s)) (option_to_list o) ≡ false
        → IfSome o (λ r. sizes_at (scale_of s) (coefficients s) + size_at (scale_of s) r ≤ MOST_SIZES)
    by None t = tt
    by (Some r) t = narrow (scale_of s) (coefficients s) r (or-false (is_wide (scale_of s) (coefficients s) r) false t).0

pub size-scaled : (m : ℕ) (r : SignedRatio) → unsigned_abs (scaled m r) ≡ size_at m r
size-scaled m r = unsigned_abs-mul r.num (pos (m / r.den))
