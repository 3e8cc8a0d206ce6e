-- The order of values, and what is among those that are reached.
use Rattle.std.proofs.Common.{◌≡◌, ℤ, ◌≤ℤ◌, ◌<ℤ◌, Option, Some, None, inl, inr, arith}
use Rattle.std.specs.Prelude.{◌⊎◌}
use Rattle.std.specs.declared.cmp.Ordering.TheVariants.{Less, Equal, Greater}
use Rattle.std.proofs.lemmas.Cmp.{int_ranked}
use Rattle.std.proofs.lemmas.Int.{ints}
use Rattle.ps_meaning.specs.Rational.{Rational}
use Rattle.ps_meaning.specs.Order.{AtMost, order_of}
use Rattle.ps_meaning.proofs.Order.{at_most_from_cross, at_most_refl, at_most_trans}
use Rattle.ps_spoken.specs.declared.reached.Reached.{Reached}
use Rattle.ps_ask.specs.Reached.{IsReached, IsTakenIn, KeepsReached}

below : (x y : ℤ) → x <ℤ y → x ≤ℤ y
below x y h = omega (arith, ints, h)

same : (x y : ℤ) → x ≡ y → x ≤ℤ y
same x y e = rw e (omega (arith, ints))

pub at_most_less : (x y : Rational) → Less ≡ order_of x y → AtMost x y
at_most_less x y e = at_most_from_cross x y (below _ _ (int_ranked _ _ Less e))

pub at_most_equal : (x y : Rational) → Equal ≡ order_of x y → AtMost x y
at_most_equal x y e = at_most_from_cross x y (same _ _ (int_ranked _ _ Equal e))

pub at_most_greater : (x y : Rational) → Greater ≡ order_of x y → AtMost y x
at_most_greater x y e = at_most_from_cross y x (below _ _ (int_ranked _ _ Greater e))

pub at_most_itself : (x : Rational) → AtMost x x
at_most_itself x = at_most_refl x

-- ---- one more value among those that are reached
pub taken_in : (old : Reached) (x l g : Rational) → AtMost l old.least → AtMost l x → AtMost old.greatest g → AtMost x g → IsTakenIn (Some old) (Some x) (Some (record { least = l; greatest = g }))
taken_in old x l g a b c d = record {
  kept = λ y h. (at_most_trans l old.least y a h.0, at_most_trans y old.greatest g h.1 c);
  taken = (b, d);
}

pub taken_first : (x : Rational) → IsTakenIn None (Some x) (Some (record { least = x; greatest = x }))
taken_first x = record { kept = λ y h. absurd h; taken = (at_most_refl x, at_most_refl x) }

pub taken_none : (old : Option Reached) → IsTakenIn old None old
taken_none old = record { kept = λ y h. h; taken = tt }

one_of : (P : Rational → Type 0) (x a b : Rational) → (x ≡ a) ⊎ (x ≡ b) → P a → P b → P x
one_of P x a b (inl e) h k = rw e h
one_of P x a b (inr e) h k = rw e k

pub keeps_in : (old : Reached) (x l g : Rational) → (l ≡ old.least) ⊎ (l ≡ x) → (g ≡ old.greatest) ⊎ (g ≡ x) → KeepsReached (Some old) (Some x) (Some (record { least = l; greatest = g }))
keeps_in old x l g a b p q h k = record {
  least = one_of (IsReached p q) l old.least x a h.least k;
  greatest = one_of (IsReached p q) g old.greatest x b h.greatest k;
}

pub keeps_first : (x : Rational) → KeepsReached None (Some x) (Some (record { least = x; greatest = x }))
keeps_first x p q h k = record { least = k; greatest = k }

pub keeps_none : (old : Option Reached) → KeepsReached old None old
keeps_none old p q h k = h
