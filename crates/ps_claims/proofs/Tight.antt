-- Values as quotients; a bound that is reached is the tightest one.
use Rattle.std.proofs.Common.{◌≡◌, ℕ, zero, suc, ◌<◌, ℤ, pos, ◌-ℤ◌, ◌*ℤ◌, ◌≤ℤ◌, List, refl, sym, ap, ◌∙◌, arith}
use Rattle.std.proofs.lemmas.Int.{ints}
use Rattle.ps_meaning.specs.Formula.{And}
use Rattle.ps_meaning.specs.Distribution.{Entry, weight}
use Rattle.ps_meaning.specs.declared.side.Side.TheVariants.{AtLeast, AtMost, Exactly}
use Rattle.ps_meaning.specs.Bounds.{Bound, MeetsBound}
use Rattle.ps_meaning.proofs.Integers.{mul_sub, swap_mul, mul-nonneg}
use Rattle.ps_meaning.specs.Rational.{Rational, fraction, suc_positive}
use Rattle.ps_meaning.specs.Order as order
use Rattle.ps_meaning.proofs.Cross.{quotient_is, quotient_cross}
use Rattle.ps_meaning.proofs.IntRing.{*ℤ_comm}
use Rattle.ps_meaning.proofs.Order.{at_most_from_cross}
use Rattle.ps_claims.specs.Queries.{Query, bound_on, Holds, Reaches}
use Rattle.ps_claims.proofs.Products.{mul-positive_back}

-- where r*y is p*x and s*y is at least o*x, with x above 0, o/s is at most p/r
cross-most : (p r o s x y : ℤ) → (r *ℤ y) ≡ (p *ℤ x) → pos 0 ≤ℤ r → pos 1 ≤ℤ x → (o *ℤ x) ≤ℤ (s *ℤ y) → (o *ℤ r) ≤ℤ (p *ℤ s)
cross-most p r o s x y e r≥0 positive le =
    let n : pos 0 ≤ℤ (r *ℤ ((s *ℤ y) -ℤ (o *ℤ x))) = mul-nonneg r ((s *ℤ y) -ℤ (o *ℤ x)) r≥0 (omega (arith, ints)) in
    let a : (r *ℤ (s *ℤ y)) ≡ (x *ℤ (p *ℤ s)) = rw (swap_mul r s y, e, swap_mul s p x, *ℤ_comm s x, swap_mul p x s) refl in
    let b : (r *ℤ (o *ℤ x)) ≡ (x *ℤ (o *ℤ r)) = rw (swap_mul r o x, *ℤ_comm r x, swap_mul o x r) refl in
    let m : pos 0 ≤ℤ (x *ℤ ((p *ℤ s) -ℤ (o *ℤ r))) = omega (arith, ints, n, a, b, mul_sub r (s *ℤ y) (o *ℤ x), mul_sub x (p *ℤ s) (o *ℤ r)) in
    let z = mul-positive_back x ((p *ℤ s) -ℤ (o *ℤ r)) positive m in
    omega (arith, ints, z)

cross-least : (p r o s x y : ℤ) → (r *ℤ y) ≡ (p *ℤ x) → pos 0 ≤ℤ r → pos 1 ≤ℤ x → (s *ℤ y) ≤ℤ (o *ℤ x) → (p *ℤ s) ≤ℤ (o *ℤ r)
cross-least p r o s x y e r≥0 positive le =
    let n : pos 0 ≤ℤ (r *ℤ ((o *ℤ x) -ℤ (s *ℤ y))) = mul-nonneg r ((o *ℤ x) -ℤ (s *ℤ y)) r≥0 (omega (arith, ints)) in
    let a : (r *ℤ (s *ℤ y)) ≡ (x *ℤ (p *ℤ s)) = rw (swap_mul r s y, e, swap_mul s p x, *ℤ_comm s x, swap_mul p x s) refl in
    let b : (r *ℤ (o *ℤ x)) ≡ (x *ℤ (o *ℤ r)) = rw (swap_mul r o x, *ℤ_comm r x, swap_mul o x r) refl in
    let m : pos 0 ≤ℤ (x *ℤ ((o *ℤ r) -ℤ (p *ℤ s))) = omega (arith, ints, n, a, b, mul_sub r (o *ℤ x) (s *ℤ y), mul_sub x (o *ℤ r) (p *ℤ s)) in
    let z = mul-positive_back x ((o *ℤ r) -ℤ (p *ℤ s)) positive m in
    omega (arith, ints, z)

pub lower-tight : (atoms : ℕ) (bounds : List Bound) (q : Query) (reached other : Rational) (d : List Entry) → Reaches atoms bounds q reached d → Holds atoms bounds q AtLeast other → order.AtMost other reached
lower-tight atoms bounds q reached other d r h = at_most_from_cross other reached
    (cross-most reached.over (pos reached.under) other.over (pos other.under) (weight d q.evidence) (weight d (And q.formula q.evidence)) r.equal (omega (arith, ints)) r.allowed.positive (h.met d r.allowed))

pub upper-tight : (atoms : ℕ) (bounds : List Bound) (q : Query) (reached other : Rational) (d : List Entry) → Reaches atoms bounds q reached d → Holds atoms bounds q AtMost other → order.AtMost reached other
upper-tight atoms bounds q reached other d r h = at_most_from_cross reached other
    (cross-least reached.over (pos reached.under) other.over (pos other.under) (weight d q.evidence) (weight d (And q.formula q.evidence)) r.equal (omega (arith, ints)) r.allowed.positive (h.met d r.allowed))

pub ratio-quotient : (value : Rational) (h : ℤ) (t : ℕ) → 0 < t → (h *ℤ pos value.under) ≡ (value.over *ℤ pos t) → fraction h t ≡ value
ratio-quotient value h zero some e = absurd (omega arith)
ratio-quotient value h (suc n) some e = sym (quotient_is value h (suc_positive n) (sym e))

pub quotient-ratio : (value : Rational) (h : ℤ) (t : ℕ) → 0 < t → fraction h t ≡ value → (h *ℤ pos value.under) ≡ (value.over *ℤ pos t)
quotient-ratio value h zero some e = absurd (omega arith)
quotient-ratio value h (suc n) some e = rw (← e) (sym (quotient_cross h (suc_positive n)))

pub reached-quotient : (q : Query) (value : Rational) (d : List Entry) (e : ℕ) → 0 < e → weight d q.evidence ≡ pos e → MeetsBound (bound_on q Exactly value) d → fraction (weight d (And q.formula q.evidence)) e ≡ value
reached-quotient q value d e some is met =
    let b = weight d (And q.formula q.evidence) in
    let h : (pos value.under *ℤ b) ≡ (value.over *ℤ pos e) = met ∙ ap (λ x. value.over *ℤ x) is in
    ratio-quotient value b e some (*ℤ_comm b (pos value.under) ∙ h)

pub quotient-reached : (q : Query) (value : Rational) (d : List Entry) (e : ℕ) → 0 < e → weight d q.evidence ≡ pos e → fraction (weight d (And q.formula q.evidence)) e ≡ value → MeetsBound (bound_on q Exactly value) d
quotient-reached q value d e some is same =
    let b = weight d (And q.formula q.evidence) in
    *ℤ_comm (pos value.under) b ∙ quotient-ratio value b e some same ∙ ap (λ x. value.over *ℤ x) (sym is)
