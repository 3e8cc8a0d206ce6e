-- A full assignment that meets a constraint, and agrees with a partial one, agrees with what the constraint forces.
use Rattle.std.proofs.Common.{◌≡◌, ℕ, ℤ, pos, ◌<ℤ◌, Bool, true, cond, not, Option, Some, None, List, [], ◌∷◌, arith, refl, ap, inl, inr}
use Rattle.std.specs.Prelude.{int_lt}
use Rattle.std.proofs.lemmas.Int.{ints}
use Rattle.std.proofs.lemmas.Bool.{cases_Bool, and_parts}
use Rattle.ps_pb.specs.Assignments.{Assignment, value_of, with_true, is_false, is_unset, holds, Includes}
use Rattle.ps_pb.specs.Constraints.{Constraint, is_open, IsMet, slack, is_forced, with_forced, is_violated, HasTerm}
use Rattle.ps_pb.proofs.Values.{Agrees, includes-refl, includes-trans, with_true-includes, with_true-agrees}
use Rattle.ps_pb.proofs.Sums.{sum_where-le, sum_where-gap, agrees-open}

-- a met constraint isn't violated
pub met-not_violated : (w : List Bool) (a : Assignment) (c : Constraint) → Agrees w a → IsMet w c → is_violated c a ≡ true → ⊥
met-not_violated w a c s m v = grind (arith, ints, sum_where-le (holds w) (is_open a) c.terms (agrees-open w a s))

-- a literal that a met constraint forces is true
pub forced-holds : (w : List Bool) (a : Assignment) (c : Constraint) (l : ℤ) (k : ℕ) → Agrees w a → IsMet w c → HasTerm l k c.terms → is_open a l ≡ true → slack c a <ℤ pos k → holds w l ≡ true
forced-holds w a c l k s m h o less = elim (cases_Bool (holds w l)) [
  | inl e ↦ e
  | inr f ↦ absurd (omega (arith, ints, sum_where-gap (holds w) (is_open a) c.terms l k (agrees-open w a s) h f o))
]

-- the terms stand among the others
pub record Among (ts us : List (ℤ × ℕ)) : Type 0 where
  pub at : (l : ℤ) (k : ℕ) → HasTerm l k ts → HasTerm l k us

pub among-refl : (ts : List (ℤ × ℕ)) → Among ts ts
among-refl ts = record { at = λ l k h. h }

pub among-rest : (t : ℤ × ℕ) (ts us : List (ℤ × ℕ)) → Among (t ∷ ts) us → Among ts us
among-rest t ts us s = record { at = λ l k h. s.at l k (inr h) }

open_unless : (o p : Option Bool) → ((v : Bool) → p ≡ Some v → o ≡ Some v) → is_unset o ≡ true → not (is_false p) ≡ true
open_unless o None h e = refl
open_unless o (Some v) h e = absurd (cc (ap is_unset (h v refl)))

pub lt-of : (a b : ℤ) → int_lt a b ≡ true → a <ℤ b
lt-of a b h = grind (arith, ints)

abbrev pub next_forced : ℤ → Assignment → (ℤ × ℕ) → Assignment
next_forced s a t = cond (is_forced s a t) (with_true a t.0) a

pub next-includes : (s : ℤ) (a : Assignment) (t : ℤ × ℕ) → Includes (next_forced s a t) a
next-includes s a t = elim (cases_Bool (is_forced s a t)) [
  | inl e ↦ rw e (with_true-includes a t.0 (and_parts (is_unset (value_of a t.0)) (int_lt s (pos t.1)) e).0)
  | inr e ↦ rw e (includes-refl a)
]

next-agrees : (w : List Bool) (before : Assignment) (c : Constraint) (t : ℤ × ℕ) (a : Assignment) → Agrees w before → IsMet w c → HasTerm t.0 t.1 c.terms → Includes a before → Agrees w a → Agrees w (next_forced (slack c before) a t)
next-agrees w before c t a s m has inc ag = elim (cases_Bool (is_forced (slack c before) a t)) [
  | inl e ↦ (let p = and_parts (is_unset (value_of a t.0)) (int_lt (slack c before) (pos t.1)) e in
      rw e (with_true-agrees w a t.0 ag (forced-holds w before c t.0 t.1 s m has (open_unless (value_of a t.0) (value_of before t.0) (inc.at t.0) p.0) (lt-of _ _ p.1))))
  | inr e ↦ rw e ag
]

pub with_forced-includes : (s : ℤ) (ts : List (ℤ × ℕ)) (a : Assignment) → Includes (with_forced s ts a) a
with_forced-includes s [] a = includes-refl a
with_forced-includes s (t ∷ ts) a = includes-trans _ _ _ (with_forced-includes s ts (next_forced s a t)) (next-includes s a t)

pub with_forced-agrees : (w : List Bool) (before : Assignment) (c : Constraint) (ts : List (ℤ × ℕ)) (a : Assignment) → Agrees w before → IsMet w c → Among ts c.terms → Includes a before → Agrees w a → Agrees w (with_forced (slack c before) ts a)
with_forced-agrees w before c [] a s m among inc ag = ag
with_forced-agrees w before c (t ∷ ts) a s m among inc ag =
    with_forced-agrees w before c ts (next_forced (slack c before) a t) s m (among-rest t ts c.terms among)
    (includes-trans _ _ _ (next-includes (slack c before) a t) inc)
    (next-agrees w before c t a s m (among.at t.0 t.1 (inl (refl, refl))) inc ag)
