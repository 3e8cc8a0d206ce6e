-- The sum of a row over entries, term by term.
use Rattle.std.proofs.Common.{◌≡◌, ℕ, zero, suc, ◌+◌, ◌*◌, ◌^◌, ◌<◌, ◌≤◌, ℤ, pos, ◌+ℤ◌, ◌*ℤ◌, ◌≤ℤ◌, List, [], ◌∷◌, length, get_or, drop, drop-cons, unsigned_abs, FitsSigned, to_z, of_z, refl, subst, ◌∙◌, arith}
use Rattle.std.specs.Int.{w64, w128}
use Rattle.std.proofs.lemmas.Int.{ints, to_z-of_z, fits_signed_from_abs, unsigned_abs-mul}
use Rattle.std.proofs.Math.Nat.{add-mul, mul-le-mul, mul-le-mul_right}
use Rattle.ps_meaning.specs.Formula.{Atom}
use Rattle.ps_meaning.specs.Distribution.{Entry, weight}
use Rattle.ps_meaning.specs.Bounds.{sum_of_weights}
use Rattle.ps_problem.specs.Problems.{terms_size}
use Rattle.ps_valid.specs.Valuations.{atom_terms}

-- the greatest weight of entries
abbrev most : ℕ
most = 101 * 2 ^ 90

-- a small number, and a weight, are read back from the machine's
number-back : (z : ℤ) → unsigned_abs z ≤ 2000000 → to_z w64 (of_z w64 z) ≡ z
number-back z h = to_z-of_z w64 z (fits_signed_from_abs w64 z (omega (arith, h)))

weight-back : (z : ℤ) → pos 0 ≤ℤ z → z ≤ℤ pos most → to_z w128 (of_z w128 z) ≡ z
weight-back z low high = to_z-of_z w128 z (fits_signed_from_abs w128 z (omega (arith, ints, low, high)))

small-back : (z : ℤ) → unsigned_abs z ≤ 2000000 * most → to_z w128 (of_z w128 z) ≡ z
small-back z h = to_z-of_z w128 z (fits_signed_from_abs w128 z (omega (arith, h)))

-- a product of a small number and a weight, as the machine has it
pub product-is : (k w p : ℤ) → unsigned_abs k ≤ 2000000 → pos 0 ≤ℤ w → w ≤ℤ pos most → p ≡ (to_z w64 (of_z w64 k) *ℤ to_z w128 (of_z w128 w)) → p ≡ (k *ℤ w)
product-is k w p small low high e = e ∙ (λ i. number-back k small i *ℤ weight-back w low high i)

pub product-size : (k w p : ℤ) → pos 0 ≤ℤ w → w ≤ℤ pos most → p ≡ (k *ℤ w) → unsigned_abs p ≤ unsigned_abs k * most
product-size k w p low high e = rw (e, unsigned_abs-mul k w) (mul-le-mul (refl_le (unsigned_abs k)) (omega (arith, ints, low, high)))
  where
    refl_le : (n : ℕ) → n ≤ n
    refl_le n = omega arith

-- how far a sum has come: what is left leads to the whole, and its size is small
pub record IsSumTo (d : List Entry) (ts : List (ℕ × ℤ)) (i : ℕ) (whole sum : ℤ) : Type 0 where
  pub value : sum +ℤ sum_of_weights (atom_terms (drop i ts)) d ≡ whole
  pub size : unsigned_abs sum + terms_size (drop i ts) * most ≤ 2000000 * most

pub sum-none : (d : List Entry) (ts : List (ℕ × ℤ)) (base sum : ℤ) → unsigned_abs sum ≤ unsigned_abs base * most → unsigned_abs base + terms_size ts ≤ 2000000
    → IsSumTo d ts 0 (sum +ℤ sum_of_weights (atom_terms ts) d) sum
sum-none d ts base sum size numbers = record {
  value = refl;
  size = (let a = add-mul (unsigned_abs base) (terms_size ts) most in let b = mul-le-mul_right most numbers in omega (arith, size, a, b));
}

-- the base times the total, as the machine has it, begins the sum
pub sum-begun : (d : List Entry) (ts : List (ℕ × ℤ)) (base whole r : ℤ) → unsigned_abs base + terms_size ts ≤ 2000000 → pos 0 ≤ℤ whole → whole ≤ℤ pos (2 ^ 90)
    → r ≡ (to_z w64 (of_z w64 base) *ℤ to_z w128 (of_z w128 whole))
    → IsSumTo d ts 0 ((to_z w64 (of_z w64 base) *ℤ to_z w128 (of_z w128 whole)) +ℤ sum_of_weights (atom_terms ts) d) (to_z w128 (of_z w128 r))
sum-begun d ts base whole r numbers low high e =
    let small : unsigned_abs base ≤ 2000000 = omega (arith, numbers) in
    let most_of : whole ≤ℤ pos most = omega (arith, ints, high) in
    let is = product-is base whole r small low most_of e in
    let size = product-size base whole r low most_of is in
    let fits = mul-le-mul_right most small in
    rw (small-back r (omega (arith, size, fits)))
    (subst (λ z. IsSumTo d ts 0 (z +ℤ sum_of_weights (atom_terms ts) d) r) e (sum-none d ts base r size numbers))

number-of : (ts : List (ℕ × ℤ)) (i : ℕ) (t : ℕ × ℤ) → i < length ts → unsigned_abs (get_or ts i t).1 ≤ terms_size ts
number-of [] i t lt = absurd (omega (arith, lt))
number-of (u ∷ ts) zero t lt = omega arith
number-of (u ∷ ts) (suc i) t lt = let h = number-of ts i t (omega (arith, lt)) in omega (arith, h)

-- a number of a small row is small
pub number-small : (ts : List (ℕ × ℤ)) (i : ℕ) (t : ℕ × ℤ) (base : ℤ) → i < length ts → unsigned_abs base + terms_size ts ≤ 2000000 → unsigned_abs (get_or ts i t).1 ≤ 2000000
number-small ts i t base lt numbers = let h = number-of ts i t lt in omega (arith, h, numbers)

module _ (d : List Entry) (ts : List (ℕ × ℤ)) (i : ℕ) (whole sum part : ℤ) (t : ℕ × ℤ) (lt : i < length ts) (is : part ≡ (get_or ts i t).1 *ℤ weight d (Atom (get_or ts i t).0))
    (small : unsigned_abs part ≤ unsigned_abs (get_or ts i t).1 * most) (so : IsSumTo d ts i whole sum) where
  -- the next term
  pub sum-next : IsSumTo d ts (i + 1) whole (sum +ℤ part)
  sum-next =
      let m : i + 1 ≡ suc i = omega arith in
      let v = rw (drop-cons ts i t lt) at so.value in
      let s = rw (drop-cons ts i t lt) at so.size in
      let a = add-mul (unsigned_abs (get_or ts i t).1) (terms_size (drop (suc i) ts)) most in
      rw m (record { value = omega (arith, ints, v, is); size = omega (arith, ints, s, a, small) })

  -- a part and the sum with it fit the machine's numbers
  part-back : to_z w128 (of_z w128 part) ≡ part
  part-back =
      let s = rw (drop-cons ts i t lt) at so.size in
      let a = add-mul (unsigned_abs (get_or ts i t).1) (terms_size (drop (suc i) ts)) most in
      small-back part (omega (arith, s, a, small))

  pub sum-fits : FitsSigned w128 (sum +ℤ to_z w128 (of_z w128 part))
  sum-fits = let n = sum-next in let s = n.size in rw part-back (fits_signed_from_abs w128 (sum +ℤ part) (omega (arith, s)))

  pub sum-machine : IsSumTo d ts (i + 1) whole (to_z w128 (of_z w128 (sum +ℤ to_z w128 (of_z w128 part))))
  sum-machine = let n = sum-next in let s = n.size in rw (part-back, small-back (sum +ℤ part) (omega (arith, s))) n
