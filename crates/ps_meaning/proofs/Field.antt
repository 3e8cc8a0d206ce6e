-- The rational numbers are a field, and identities between them hold by computation.
use Rattle.std.proofs.Common.{List, ◌≡◌, ◌≢◌, ℕ, zero, suc, ℤ, pos, negsuc, ◌*ℤ◌, neg_ℤ, arith, sym, refl, ap, ◌∙◌}
use Rattle.std.proofs.Math.Nat.{zero-mul}
use Rattle.std.proofs.lemmas.Int.{ints}
use Rattle.ps_meaning.specs.Gcd.{gcd, gcd_within}
use Rattle.ps_meaning.specs.Rational.{Rational, Positive, one_positive, suc_positive, at_least_one, times, quotient, fraction, zero_q, one_q, add, mul, neg, inverse_of, inverse, div, den}
use Rattle.ps_meaning.proofs.IntRing.{neg-pos, diff-negsuc, diff-same, diffs, diff}
use Rattle.ps_meaning.specs.Laws.{CommutativeRing}
use Rattle.ps_meaning.proofs.Ring.{Term, eval, ring, join, gains, losses}
use Rattle.ps_meaning.proofs.Cross.{times-value, fractional, quotients, by_cross, quotient_of_parts, quotient_is, mul-quotient, neg-quotient, quotient-same}

assoc : (p n q m r k : ℕ) (d e f : Positive) → add (add (quotient (diff p n) d) (quotient (diff q m) e)) (quotient (diff r k) f) ≡ add (quotient (diff p n) d) (add (quotient (diff q m) e) (quotient (diff r k) f))
assoc p n q m r k d e f = simp quotients (by_cross _ _ _ _ _ _ (simp times-value (omega arith)))

pub add_assoc : (x y z : Rational) → add (add x y) z ≡ add x (add y z)
add_assoc x y z =
    let a = fractional x in
    let b = fractional y in
    let c = fractional z in
    rw (a.is, b.is, c.is) (assoc _ _ _ _ _ _ _ _ _)

pub add_comm : (x y : Rational) → add x y ≡ add y x
add_comm x y =
    let a = fractional x in
    let b = fractional y in
    rw (a.is, b.is) (simp quotients (by_cross _ _ _ _ _ _ (simp times-value (omega arith))))

pub mul_comm : (x y : Rational) → mul x y ≡ mul y x
mul_comm x y =
    let a = fractional x in
    let b = fractional y in
    rw (a.is, b.is) (simp quotients (by_cross _ _ _ _ _ _ (simp times-value (omega arith))))

pub mul_assoc : (x y z : Rational) → mul (mul x y) z ≡ mul x (mul y z)
mul_assoc x y z =
    let a = fractional x in
    let b = fractional y in
    let c = fractional z in
    rw (a.is, b.is, c.is) (simp quotients (by_cross _ _ _ _ _ _ (simp times-value (omega arith))))

pub add-mul : (x y z : Rational) → mul (add x y) z ≡ add (mul x z) (mul y z)
add-mul x y z =
    let a = fractional x in
    let b = fractional y in
    let c = fractional z in
    rw (a.is, b.is, c.is) (simp quotients (by_cross _ _ _ _ _ _ (simp times-value (omega arith))))

pub add-zero : (x : Rational) → add x zero_q ≡ x
unfolding zero_q
add-zero x =
    let a = fractional x in
    rw a.is (simp quotients (by_cross _ _ _ _ _ _ (simp times-value (omega arith))))

pub mul-one : (x : Rational) → mul x one_q ≡ x
unfolding one_q
mul-one x =
    let a = fractional x in
    rw a.is (simp quotients (by_cross _ _ _ _ _ _ (simp times-value (omega arith))))

pub add-neg : (x : Rational) → add x (neg x) ≡ zero_q
unfolding zero_q
add-neg x =
    let a = fractional x in
    rw a.is (simp quotients (by_cross _ _ _ _ _ _ (simp times-value (omega arith))))

pub rational_laws : CommutativeRing add mul neg zero_q one_q
rational_laws = record {
  add_assoc = add_assoc;
  add_comm = add_comm;
  add-zero = add-zero;
  add-neg = add-neg;
  mul_assoc = mul_assoc;
  mul_comm = mul_comm;
  mul-one = mul-one;
  add-mul = add-mul;
}

pub ring_q : (xs : List Rational) (s t : Term) → join (gains s) (losses t) ≡ join (gains t) (losses s) → eval add mul neg zero_q one_q rational_laws xs s ≡ eval add mul neg zero_q one_q rational_laws xs t
ring_q = ring add mul neg zero_q one_q rational_laws

-- ---- zero, one and inverses
abbrev over_of : Rational → ℤ
over_of x = x.over

pub zero_over : (x : Rational) → x ≡ zero_q → x.over ≡ pos 0
unfolding zero_q quotient gcd gcd_within
zero_over x e = ap over_of e

pub over_is_zero : (x : Rational) → x.over ≡ pos 0 → x ≡ zero_q
unfolding zero_q
over_is_zero x e = quotient_is x (pos 0) one_positive (ap (λ z. z *ℤ pos 1) e ∙ ap pos (sym (zero-mul x.under)))

pub one_over : one_q.over ≡ pos 1
unfolding one_q quotient gcd gcd_within
one_over = refl

pub one_not_zero : one_q ≢ zero_q
one_not_zero e = let k = zero_over one_q e in absurd (omega (arith, ints, k, one_over))

over_zero : (d : Positive) → quotient (pos zero) d ≡ zero_q
unfolding zero_q
over_zero d = quotient-same (pos zero) (pos 0) d one_positive (omega (arith, ints))

times_inverse : (z : ℤ) (d : Positive) → z ≢ pos zero → mul (quotient z d) (inverse_of z d) ≡ one_q
unfolding inverse_of one_q times
times_inverse (pos zero) d n = absurd (n refl)
times_inverse (pos (suc k)) d n = mul-quotient _ _ _ _ ∙ quotient-same _ _ _ _ (ap pos (omega arith))
times_inverse (negsuc k) d n =
    mul-quotient (negsuc k) (neg_ℤ (pos d.value)) d (suc_positive k)
    ∙ quotient-same (negsuc k *ℤ neg_ℤ (pos d.value)) (pos 1) _ one_positive (rw (diff-negsuc k, neg-pos d.value) (simp diffs (diff-same _ _ _ _ (omega arith))))

pub mul-inverse : (x : Rational) → x ≢ zero_q → mul x (inverse x) ≡ one_q
unfolding inverse
mul-inverse x n =
    let h : x.over ≢ pos zero = λ e. n (quotient_of_parts x ∙ ap (λ z. quotient z (den x)) e ∙ over_zero (den x)) in
    ap (λ k. mul k (inverse_of x.over (den x))) (quotient_of_parts x) ∙ times_inverse x.over (den x) h

pub div-mul : (x y : Rational) → y ≢ zero_q → mul (div x y) y ≡ x
div-mul x y n =
    mul_assoc x (inverse y) y ∙ ap (mul x) (mul_comm (inverse y) y ∙ mul-inverse y n) ∙ mul-one x

pub zero_is_fraction : fraction (pos 0) 1 ≡ zero_q
unfolding zero_q
zero_is_fraction = quotient-same (pos 0) (pos 0) (at_least_one 1) one_positive refl

pub one_is_fraction : fraction (pos 1) 1 ≡ one_q
unfolding one_q
one_is_fraction = quotient-same (pos 1) (pos 1) (at_least_one 1) one_positive refl

pub minus_one_is_fraction : fraction (negsuc 0) 1 ≡ neg one_q
unfolding one_q
minus_one_is_fraction = quotient-same (negsuc 0) (neg_ℤ (pos 1)) (at_least_one 1) one_positive refl ∙ sym (neg-quotient (pos 1) one_positive)
