-- Constraints under two assignments, where what is false in the one is false in the other.
use Rattle.std.proofs.Common.{◌≡◌, ◌≢◌, ℕ, ◌+◌, ◌<◌, ◌≤◌, ℤ, pos, ◌+ℤ◌, ◌≤ℤ◌, ◌<ℤ◌, Bool, true, false, not, Option, Some, None, List, [], ◌∷◌, length, arith, refl, ap, ◌∙◌, subst, ◌⊎◌, inl, inr}
use Rattle.std.proofs.lemmas.Int.{ints}
use Rattle.ps_pb.specs.Assignments.{Assignment, place, value_of, is_false, is_unset}
use Rattle.ps_pb.specs.Constraints.{Constraint, Covers, sum_where, is_open, HasTerm, Forces, slack, is_violated, some_forced, with_forced}
use Rattle.ps_pb.specs.Weights.{weighted, IsNormal}
use Rattle.ps_pb.proofs.Sums.{part, gap_part}
use Rattle.ps_pb.proofs.Forcing.{lt-of}
use Rattle.ps_pb.proofs.Setting.{lt-from, forced-some, forced-true, rising-distinct, AreDistinct}

abbrev pub On : (ℤ → Bool) → (ℤ → Bool) → List (ℤ × ℕ) → Type 0
On f g ts = (l : ℤ) (k : ℕ) → HasTerm l k ts → f l ≡ true → g l ≡ true

le_on : (f g : ℤ → Bool) (ts : List (ℤ × ℕ)) → On f g ts → sum_where f ts ≤ sum_where g ts
le_on f g [] h = omega arith
le_on f g (t ∷ ts) h = omega (arith, part (f t.0) (g t.0) t.1 (h t.0 t.1 (inl (refl, refl))), le_on f g ts (λ l k m. h l k (inr m)))

gap_on : (f g : ℤ → Bool) (ts : List (ℤ × ℕ)) (l : ℤ) (k : ℕ) → On f g ts → HasTerm l k ts → f l ≡ false → g l ≡ true → sum_where f ts + k ≤ sum_where g ts
gap_on f g [] l k h m p q = absurd m
gap_on f g (t ∷ ts) l k h (inl m) p q =
    subst (λ z. sum_where f (t ∷ ts) + z ≤ sum_where g (t ∷ ts)) m.1
    (gap_part (f t.0) (g t.0) t.1 (sum_where f ts) (sum_where g ts) (ap f m.0 ∙ p) (ap g m.0 ∙ q) (le_on f g ts (λ x y z. h x y (inr z))))
gap_on f g (t ∷ ts) l k h (inr m) p q =
    omega (arith, part (f t.0) (g t.0) t.1 (h t.0 t.1 (inl (refl, refl))), gap_on f g ts l k (λ x y z. h x y (inr z)) m p q)

pub covers-slack : (c : Constraint) (a s : Assignment) → Covers c a s → slack c s ≤ℤ slack c a
covers-slack c a s h = omega (arith, ints, le_on (is_open s) (is_open a) c.terms h.at)

open_when_unset : (o : Option Bool) → is_unset o ≡ true → not (is_false o) ≡ true
open_when_unset None h = refl
open_when_unset (Some b) h = absurd (cc)

covers-gap : (c : Constraint) (a s : Assignment) (l : ℤ) (k : ℕ) → Covers c a s → HasTerm l k c.terms → value_of s l ≡ Some false → is_unset (value_of a l) ≡ true → (slack c s +ℤ pos k) ≤ℤ slack c a
covers-gap c a s l k h m f u = omega (arith, ints, gap_on (is_open s) (is_open a) c.terms l k h.at m (ap (λ o. not (is_false o)) f) (open_when_unset (value_of a l) u))

lt-trans : (a b c : ℤ) → a ≤ℤ b → b <ℤ c → a <ℤ c
lt-trans a b c h k = omega (arith, ints)

-- a constraint that is violated in the first is violated in the second
pub covers-violated : (c : Constraint) (a s : Assignment) → Covers c a s → is_violated c a ≡ true → is_violated c s ≡ true
covers-violated c a s h v = lt-from (slack c s) (pos 0) (let m : slack c a <ℤ pos 0 = lt-of (slack c a) (pos 0) v in omega (arith, ints, m, covers-slack c a s h))

pub covers-false : (c : Constraint) (a s : Assignment) (l : ℤ) → Covers c a s → Forces c a l → value_of s l ≡ Some false → is_violated c s ≡ true
covers-false c a s l h f e = lt-from (slack c s) (pos 0) (let m = f.more in omega (arith, ints, m, covers-gap c a s l f.coefficient h f.term e f.unset))

must_be_unset : (o : Option Bool) → o ≢ Some true → (o ≡ Some false → ⊥) → is_unset o ≡ true
must_be_unset None p q = refl
must_be_unset (Some true) p q = absurd (p refl)
must_be_unset (Some false) p q = absurd (q refl)

-- a literal that is forced in the first is unset in the second, unless it is true, or the constraint is violated there
pub covers-unset : (c : Constraint) (a s : Assignment) (l : ℤ) → Covers c a s → Forces c a l → is_violated c s ≡ false → value_of s l ≢ Some true → is_unset (value_of s l) ≡ true
covers-unset c a s l h f well ne = must_be_unset (value_of s l) ne (λ q. absurd (cc (covers-false c a s l h f q)))

pub covers-more : (c : Constraint) (a s : Assignment) (l : ℤ) → Covers c a s → (f : Forces c a l) → slack c s <ℤ pos f.coefficient
covers-more c a s l h f = lt-trans (slack c s) (slack c a) (pos f.coefficient) (covers-slack c a s h) f.more

pub covers-forces : (c : Constraint) (a s : Assignment) (l : ℤ) → Covers c a s → Forces c a l → is_violated c s ≡ false → value_of s l ≢ Some true → Forces c s l
covers-forces c a s l h f well ne = record { coefficient = f.coefficient; term = f.term; unset = covers-unset c a s l h f well ne; more = covers-more c a s l h f }

-- and it is forced there
pub covers-some : (c : Constraint) (a s : Assignment) (l : ℤ) → Covers c a s → Forces c a l → is_violated c s ≡ false → value_of s l ≢ Some true → some_forced (slack c s) s c.terms ≡ true
covers-some c a s l h f well ne = forced-some (slack c s) s c.terms l f.coefficient f.term (covers-unset c a s l h f well ne) (covers-more c a s l h f)

pub covers-true : (c : Constraint) (a s : Assignment) (l : ℤ) → Covers c a s → Forces c a l → AreDistinct c.terms → is_violated c s ≡ false → value_of s l ≢ Some true → place l < length s → value_of (with_forced (slack c s) c.terms s) l ≡ Some true
covers-true c a s l h f d well ne p = forced-true (slack c s) c.terms s l f.coefficient f.term d (covers-unset c a s l h f well ne) p (covers-more c a s l h f)

either : (b : Bool) (o : Option Bool) (F : Type 0) → (b ≡ false → o ≢ Some true → F) → (b ≡ true) ⊎ ((o ≡ Some true) ⊎ F)
either true o F h = inl refl
either false None F h = inr (inr (h refl (λ e. absurd (cc))))
either false (Some true) F h = inr (inl refl)
either false (Some false) F h = inr (inr (h refl (λ e. absurd (cc))))

pub forced-stay : (c : Constraint) (a s : Assignment) (l : ℤ) → Covers c a s → Forces c a l → (is_violated c s ≡ true) ⊎ ((value_of s l ≡ Some true) ⊎ Forces c s l)
forced-stay c a s l h f = either (is_violated c s) (value_of s l) (Forces c s l) (λ well ne. covers-forces c a s l h f well ne)

pub forced-set : (c : Constraint) (a : Assignment) (l : ℤ) → IsNormal (weighted c.terms) c.degree → place l < length a → Forces c a l → value_of (with_forced (slack c a) c.terms a) l ≡ Some true
forced-set c a l n p f = forced-true (slack c a) c.terms a l f.coefficient f.term (rising-distinct 0 c.terms n.rising) f.unset p f.more
