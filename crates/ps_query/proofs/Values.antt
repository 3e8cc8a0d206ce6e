-- The value of a bound: at least 0, and small where head and top of its dual are.
use Rattle.std.proofs.Common.{◌≡◌, ℕ, zero, suc, ◌*◌, ◌<◌, ◌≤◌, ℤ, pos, negsuc, ◌*ℤ◌, ◌≤ℤ◌, unsigned_abs, List, sym, ap, ◌∙◌, subst, arith}
use Rattle.std.specs.Int.{IsGcd, ◌∣◌}
use Rattle.std.proofs.lemmas.Int.{ints, unsigned_abs-mul}
use Rattle.std.proofs.lemmas.Nat.Gcd.{IsGcd-swap, le_of_dvd}
use Rattle.std.proofs.Math.Nat.{dvd-mul_left, mul_comm}
use Rattle.ps_meaning.specs.Rational.{Rational}
use Rattle.ps_meaning.specs.Coprime.{gauss}
use Rattle.ps_meaning.specs.Formula.{And}
use Rattle.ps_meaning.specs.Distribution.{Entry, weight}
use Rattle.ps_meaning.proofs.Weights.{weight-nonneg}
use Rattle.ps_claims.specs.Queries.{Query, Reaches}
use Rattle.ps_meaning.specs.Bounds as meaning
use Rattle.ps_claims.specs.Duals.{Dual, HasValueHead}

-- ---- its size
sizes : (head over top : ℤ) (under : ℕ) → head *ℤ pos under ≡ over *ℤ top → unsigned_abs head * under ≡ unsigned_abs over * unsigned_abs top
sizes head over top under e = sym (unsigned_abs-mul head (pos under)) ∙ ap unsigned_abs e ∙ unsigned_abs-mul over top

under_most : (head over under top : ℕ) → IsGcd over under 1 → 0 < top → head * under ≡ over * top → under ≤ top
under_most head over under top coprime some e =
    le_of_dvd some (gauss under over top (IsGcd-swap over under 1 coprime)
    (subst (λ k. under ∣ k) (e ∙ mul_comm over top) (dvd-mul_left under head)))

over_most : (head over under top : ℕ) → IsGcd over under 1 → 0 < top → head * under ≡ over * top → over ≤ head
over_most zero zero under top coprime some e = omega arith
over_most zero (suc over) under (suc top) coprime some e = absurd (omega (arith, e))
over_most zero (suc over) under zero coprime some e = absurd (omega arith)
over_most (suc head) over under top coprime some e =
    le_of_dvd (omega arith) (gauss over under (suc head) coprime
    (subst (λ k. over ∣ k) (mul_comm top over ∙ sym e) (dvd-mul_left over top)))

-- numerator and denominator are at most as large as head and top
pub record IsSmallValue (value : Rational) (d : Dual) : Type 0 where
  pub over : unsigned_abs value.over ≤ unsigned_abs d.head
  pub under : value.under ≤ unsigned_abs d.top

size_of_top : (top : ℤ) → pos 1 ≤ℤ top → 0 < unsigned_abs top
size_of_top (pos n) h = omega (arith, ints, h)
size_of_top (negsuc n) h = absurd (omega (arith, ints, h))

pub value_small : (value : Rational) (d : Dual) → HasValueHead value d → IsSmallValue value d
value_small value d h =
    let e = sizes d.head value.over d.top value.under h.ratio in
    let some = size_of_top d.top h.top in
    record {
      over = over_most (unsigned_abs d.head) (unsigned_abs value.over) value.under (unsigned_abs d.top) value.lowest.coprime some e;
      under = under_most (unsigned_abs d.head) (unsigned_abs value.over) value.under (unsigned_abs d.top) value.lowest.coprime some e;
    }

-- ---- its sign
both_below : (n m : ℕ) → (negsuc n *ℤ pos (suc m)) ≤ℤ negsuc 0
both_below n m = omega (arith, ints)

-- what times a positive number is at least 0 is itself
not_below : (over evidence both : ℤ) (under : ℕ) → pos 1 ≤ℤ evidence → pos 0 ≤ℤ both → pos under *ℤ both ≡ over *ℤ evidence → pos 0 ≤ℤ over
not_below (pos n) evidence both under some low e = omega (arith, ints)
not_below (negsuc n) (negsuc m) both under some low e = absurd (omega (arith, ints, some))
not_below (negsuc n) (pos zero) both under some low e = absurd (omega (arith, ints, some))
not_below (negsuc n) (pos (suc m)) (negsuc k) under some low e = absurd (omega (arith, ints, low))
not_below (negsuc n) (pos (suc m)) (pos k) under some low e = absurd (omega (arith, ints, e, both_below n m))

-- what a distribution reaches is at least 0
pub value_low : (atoms : ℕ) (bounds : List meaning.Bound) (q : Query) (value : Rational) (d : List Entry) → Reaches atoms bounds q value d → pos 0 ≤ℤ value.over
value_low atoms bounds q value d h =
    not_below value.over (weight d q.evidence) (weight d (And q.formula q.evidence)) value.under h.allowed.positive
    (weight-nonneg d (And q.formula q.evidence) h.allowed.model.distribution.weighed) h.equal
