-- Cells of rows of whole numbers after a pivot.
use Rattle.std.proofs.Common.{◌≡◌, ◌≢◌, ℕ, ◌*◌, ℤ, pos, ◌+ℤ◌, ◌*ℤ◌, neg_ℤ, [], ◌∷◌, refl, ap, sym, ◌∙◌}
use Rattle.std.proofs.Math.Nat.{mul_comm as mul-nat_comm}
use Rattle.ps_meaning.specs.Rational.{Positive, times, quotient, add, mul, sub, inverse, div, zero_q}
use Rattle.ps_meaning.proofs.Ring.{var, plus, by, minus}
use Rattle.ps_meaning.proofs.IntRing.{ring_z, cross_reduced}
use Rattle.ps_meaning.proofs.Cross.{times-value, quotient-same, add-quotient, mul-quotient, neg-quotient}
use Rattle.ps_meaning.proofs.Field.{mul_assoc, mul-inverse, mul-one}

-- the new row of the pivot
pub own_row : (P a R : ℤ) (e r : Positive) → quotient a e ≢ zero_q → R *ℤ a ≡ P *ℤ pos r.value → div (quotient P e) (quotient a e) ≡ quotient R r
own_row P a R e r nz own =
    let Y = quotient R r in
    let Z = quotient a e in
    let cross : (R *ℤ a) *ℤ pos e.value ≡ P *ℤ pos (times r e).value =
    ap (λ z. z *ℤ pos e.value) own
    ∙ sym (cross_reduced P r.value e.value)
    ∙ ap (λ n. P *ℤ pos n) (mul-nat_comm e.value r.value ∙ sym (times-value r e)) in
    let product : mul Y Z ≡ quotient P e = mul-quotient R a r e ∙ quotient-same (R *ℤ a) P (times r e) e cross in
    ap (λ k. mul k (inverse Z)) (sym product) ∙ mul_assoc Y Z (inverse Z) ∙ ap (mul Y) (mul-inverse Z nz) ∙ mul-one Y

-- what a cell loses
pub lost : (c R s : ℤ) (d r m : Positive) → s *ℤ pos r.value ≡ c *ℤ pos m.value → mul (quotient c d) (quotient R r) ≡ quotient (s *ℤ R) (times d m)
lost c R s d r m less =
    let left : (c *ℤ R) *ℤ (pos d.value *ℤ pos m.value) ≡ (c *ℤ pos m.value) *ℤ (R *ℤ pos d.value) =
    ring_z (c ∷ R ∷ pos d.value ∷ pos m.value ∷ []) (by (by (var 0) (var 1)) (by (var 2) (var 3))) (by (by (var 0) (var 3)) (by (var 1) (var 2))) refl in
    let right : (s *ℤ pos r.value) *ℤ (R *ℤ pos d.value) ≡ (s *ℤ R) *ℤ (pos d.value *ℤ pos r.value) =
    ring_z (s ∷ R ∷ pos d.value ∷ pos r.value ∷ []) (by (by (var 0) (var 3)) (by (var 1) (var 2))) (by (by (var 0) (var 1)) (by (var 2) (var 3))) refl in
    let cross : (c *ℤ R) *ℤ pos (d.value * m.value) ≡ (s *ℤ R) *ℤ pos (d.value * r.value) = left ∙ ap (λ k. k *ℤ (R *ℤ pos d.value)) (sym less) ∙ right in
    mul-quotient c R d r
    ∙ quotient-same (c *ℤ R) (s *ℤ R) (times d r) (times d m)
    (ap (λ n. (c *ℤ R) *ℤ pos n) (times-value d m) ∙ cross ∙ ap (λ n. (s *ℤ R) *ℤ pos n) (sym (times-value d r)))

-- a difference over one denominator
pub difference : (z w : ℤ) (d : Positive) → sub (quotient z d) (quotient w d) ≡ quotient (z +ℤ neg_ℤ w) d
difference z w d =
    let cross : (z *ℤ pos d.value +ℤ neg_ℤ w *ℤ pos d.value) *ℤ pos d.value ≡ (z +ℤ neg_ℤ w) *ℤ (pos d.value *ℤ pos d.value) =
    ring_z (z ∷ w ∷ pos d.value ∷ []) (by (plus (by (var 0) (var 2)) (by (minus (var 1)) (var 2))) (var 2)) (by (plus (var 0) (minus (var 1))) (by (var 2) (var 2))) refl in
    ap (add (quotient z d)) (neg-quotient w d)
    ∙ add-quotient z (neg_ℤ w) d d
    ∙ quotient-same (z *ℤ pos d.value +ℤ neg_ℤ w *ℤ pos d.value) (z +ℤ neg_ℤ w) (times d d) d
    (cross ∙ ap (λ n. (z +ℤ neg_ℤ w) *ℤ pos n) (sym (times-value d d)))

-- numerator and denominator times the same
pub expanded : (z : ℤ) (d m : Positive) → quotient z d ≡ quotient (z *ℤ pos m.value) (times d m)
expanded z d m =
    quotient-same z (z *ℤ pos m.value) d (times d m) (ap (λ n. z *ℤ pos n) (times-value d m) ∙ cross_reduced z m.value d.value)

-- numerator and denominator divided by the same
pub reduced : (V W : ℤ) (D E : Positive) (by : ℕ) → V *ℤ pos by ≡ W → D.value * by ≡ E.value → quotient V D ≡ quotient W E
reduced V W D E g ev ed =
    quotient-same V W D E (ap (λ n. V *ℤ pos n) (sym ed) ∙ cross_reduced V g D.value ∙ ap (λ z. z *ℤ pos D.value) ev)

-- a cell of another row than the pivot's
pub new_cell : (N c P a R s V : ℤ) (d e r m D : Positive) (by : ℕ) → quotient a e ≢ zero_q
    → R *ℤ a ≡ P *ℤ pos r.value → s *ℤ pos r.value ≡ c *ℤ pos m.value
    → V *ℤ pos by ≡ N *ℤ pos m.value +ℤ neg_ℤ (s *ℤ R) → D.value * by ≡ d.value * m.value
    → quotient V D ≡ sub (quotient N d) (mul (quotient c d) (div (quotient P e) (quotient a e)))
new_cell N c P a R s V d e r m D g nz own less value under =
    reduced V (N *ℤ pos m.value +ℤ neg_ℤ (s *ℤ R)) D (times d m) g value (under ∙ sym (times-value d m))
    ∙ sym (difference (N *ℤ pos m.value) (s *ℤ R) (times d m))
    ∙ (λ k. sub (sym (expanded N d m) k) (sym (lost c R s d r m less) k))
    ∙ ap (λ k. sub (quotient N d) (mul (quotient c d) k)) (sym (own_row P a R e r nz own))
