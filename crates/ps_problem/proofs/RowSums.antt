-- The sum of a row's terms, one by one.
use Rattle.std.proofs.Common.{◌≡◌, ℕ, suc, ◌+◌, ◌<◌, ◌≤◌, ℤ, pos, ◌+ℤ◌, Bool, true, false, cond, List, [], ◌∷◌, length, get_or, drop, drop-cons, unsigned_abs, sym, ap, ◌∙◌, arith, w64, to_z, of_z}
use Rattle.std.proofs.lemmas.Int.{ints, to_z-of_z, fits_signed_from_abs}
use Rattle.std.specs.Prelude.{slice_index_or}
use Rattle.ps_problem.specs.Problems.{terms_size}
use Rattle.ps_problem.specs.Rows.{term_over, terms_over}

part_size : (b : Bool) (k : ℤ) → unsigned_abs (cond b k (pos 0)) ≤ unsigned_abs k
part_size true k = omega arith
part_size false k = omega (arith, ints)

drop-item : (ts : List (ℕ × ℤ)) (i : ℕ) (t : ℕ × ℤ) → i < length ts → drop i ts ≡ get_or ts i t ∷ drop (i + 1) ts
drop-item ts i t h = let k : i + 1 ≡ suc i = omega arith in rw k (drop-cons ts i t h)

-- how far a sum has come: what is left leads to the whole, and its size is small
pub record IsSumTo (truth : List Bool) (ts : List (ℕ × ℤ)) (i : ℕ) (whole : ℤ) (most : ℕ) (sum : ℤ) : Type 0 where
  pub value : sum +ℤ terms_over truth (drop i ts) ≡ whole
  pub size : unsigned_abs sum + terms_size (drop i ts) ≤ most

module _ (truth : List Bool) (ts : List (ℕ × ℤ)) (i : ℕ) (whole : ℤ) (most : ℕ) (sum : ℤ) (t : ℕ × ℤ) (h : i < length ts) (so : IsSumTo truth ts i whole most sum) where
  -- the next term
  pub sum-next : IsSumTo truth ts (i + 1) whole most (sum +ℤ term_over truth (get_or ts i t))
  sum-next =
      let d = drop-item ts i t h in
      let v = rw d at so.value in
      let s = rw d at so.size in
      let p = part_size (slice_index_or truth (get_or ts i t).0 true) (get_or ts i t).1 in
      record { value = omega (arith, ints, v); size = omega (arith, ints, s, p) }

  -- the term's number is small
  pub number-small : unsigned_abs (get_or ts i t).1 ≤ most
  number-small =
      let d = drop-item ts i t h in
      let s = rw d at so.size in
      omega (arith, s)

  -- the term is small
  pub term-small : unsigned_abs (term_over truth (get_or ts i t)) ≤ most
  term-small =
      let d = drop-item ts i t h in
      let s = rw d at so.size in
      let p = part_size (slice_index_or truth (get_or ts i t).0 true) (get_or ts i t).1 in
      omega (arith, s, p)

  -- with it the sum stays small
  pub sum-small : unsigned_abs (sum +ℤ term_over truth (get_or ts i t)) ≤ most
  sum-small = let n = sum-next in let s = n.size in omega arith

pub small-back : (z : ℤ) → unsigned_abs z ≤ 2000000 → to_z w64 (of_z w64 z) ≡ z
small-back z h = to_z-of_z w64 z (fits_signed_from_abs w64 z (omega arith))

-- a small sum of a sum and a small part, as the machine has it
pub machine-sum : (s p q : ℤ) → p ≡ q → unsigned_abs q ≤ 2000000 → unsigned_abs (s +ℤ q) ≤ 2000000 → s +ℤ q ≡ to_z w64 (of_z w64 (s +ℤ to_z w64 (of_z w64 p)))
machine-sum s p q e h l = sym (ap (λ x. to_z w64 (of_z w64 (s +ℤ x))) (ap (λ x. to_z w64 (of_z w64 x)) e ∙ small-back q h) ∙ small-back (s +ℤ q) l)
