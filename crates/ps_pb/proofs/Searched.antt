-- Forced terms in a list.
use Rattle.std.proofs.Common.{◌≡◌, ℕ, zero, suc, ◌+◌, ◌<◌, ℤ, pos, ◌<ℤ◌, List, [], ◌∷◌, length, get_or, drop, ◌≤◌, true, arith, sym, ap, subst, inl, inr, unsigned_abs}
use Rattle.std.specs.List.{All}
use Rattle.std.proofs.lemmas.Int.{ints}
use Rattle.ps_pb.specs.Assignments.{Assignment, value_of, is_unset}
use Rattle.ps_pb.specs.Constraints.{Constraint, HasTerm, Forces, slack}
use Rattle.ps_pb.specs.Weights.{Weighted, terms_of}
use Rattle.ps_pb.proofs.Bounds.{IsPositive}
use Rattle.ps_pb.proofs.Summed.{drop-item}

pub record HasForced (s l : ℤ) (ts : List (ℤ × ℕ)) : Type 0 where
  pub coefficient : ℕ
  pub term : HasTerm l coefficient ts
  pub more : s <ℤ pos coefficient

pub has_term-at : (ts : Weighted) (i : ℕ) (t : ℤ × ℤ) → i < length ts → t ≡ get_or ts i t → HasTerm t.0 (unsigned_abs t.1) (terms_of ts)
has_term-at [] i t h e = absurd (omega arith)
has_term-at (u ∷ us) zero t h e = inl (ap (λ x. x.0) (sym e), ap (λ x. unsigned_abs x.1) (sym e))
has_term-at (u ∷ us) (suc i) t h e = inr (has_term-at us i t (omega arith) e)

-- a term that isn't forced is passed
pub forced_later : (s l : ℤ) (ts : Weighted) (i : ℕ) (t : ℤ × ℤ) → All IsPositive ts → i < length ts → t ≡ get_or ts i t → ((t.0 ≡ l) × (s <ℤ t.1) → ⊥) → HasForced s l (terms_of (drop i ts)) → HasForced s l (terms_of (drop (i + 1) ts))
forced_later s l ts i t a h e not f =
    let f' = subst (λ us. HasForced s l (terms_of us)) (drop-item ts i t h e) f in
    let positive = subst IsPositive (sym e) (a i t h) in
    elim f'.term [
      | inl here ↦ absurd (not (here.0, (let k = here.1 in omega (arith, ints, k, f'.more, positive))))
      | inr later ↦ record { coefficient = f'.coefficient; term = later; more = f'.more }
    ]

none_left : (s l : ℤ) (ts : Weighted) (i : ℕ) → length ts ≤ i → HasForced s l (terms_of (drop i ts)) → ⊥
none_left s l [] zero h f = f.term
none_left s l [] (suc i) h f = f.term
none_left s l (t ∷ ts) zero h f = absurd (omega arith)
none_left s l (t ∷ ts) (suc i) h f = none_left s l ts i (omega arith) f

pub never_forced : (c : Constraint) (a : Assignment) (l s : ℤ) (ts : Weighted) (i : ℕ) → terms_of ts ≡ c.terms → s ≡ slack c a → length ts ≤ i → (HasForced s l (terms_of ts) → HasForced s l (terms_of (drop i ts))) → Forces c a l → ⊥
never_forced c a l s ts i e q h inv f =
    none_left s l ts i h (inv (record { coefficient = f.coefficient; term = subst (HasTerm l f.coefficient) (sym e) f.term; more = subst (λ z. z <ℤ pos f.coefficient) (sym q) f.more }))

pub forces_at : (c : Constraint) (a : Assignment) (l s : ℤ) (ts : Weighted) (i : ℕ) (t : ℤ × ℤ) → terms_of ts ≡ c.terms → s ≡ slack c a → All IsPositive ts → is_unset (value_of a l) ≡ true → i < length ts → t ≡ get_or ts i t → (t.0 ≡ l) × (s <ℤ t.1) → Forces c a l
forces_at c a l s ts i t e q p unset h at above =
    let positive = subst IsPositive (sym at) (p i t h) in
    let has = has_term-at ts i t h at in
    let k : pos (unsigned_abs t.1) ≡ t.1 = omega (arith, ints, positive) in
    record {
      coefficient = unsigned_abs t.1;
      term = subst (HasTerm l (unsigned_abs t.1)) e (subst (λ m. HasTerm m (unsigned_abs t.1) (terms_of ts)) above.0 has);
      unset = unset;
      more = rw (← q) (rw k above.1);
    }
