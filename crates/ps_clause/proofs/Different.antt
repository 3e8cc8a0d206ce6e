-- The literals of a tidy clause are of different variables.
use Rattle.std.proofs.Common.{◌≡◌, ◌≢◌, ◌⊎◌, inl, inr, ℕ, zero, suc, ◌<◌, ℤ, pos, negsuc, neg_ℤ, Bool, true, false, not, [], ◌∷◌, length, get_or, refl, sym, ap, ◌∙◌, arith, true≢false}
use Rattle.std.specs.List.{All, AllPairs, list_any, filter}
use Rattle.std.specs.Ordering.{int_eq}
use Rattle.std.proofs.lemmas.Bool.Decides.{Decides-int_eq}
use Rattle.std.proofs.lemmas.List.Elements.{All-nil, All-cons, All-head, All-tail, All-filter, filter_passes}
use Rattle.std.proofs.lemmas.List.Kept.{AllPairs-cons, AllPairs-filter}
use Rattle.std.proofs.lemmas.List.Folds.{list_any_at}
use Rattle.ps_pb.specs.Assignments.{place, AreDifferent}
use Rattle.ps_clause.specs.Clauses.{Clause, once, is_tautology}
use Rattle.ps_clause.proofs.Tidy.{IsLit, AreLits, by_bool}

abbrev pub IsApart : ℤ → ℤ → Type 0
IsApart l m = place l ≢ place m

-- literals of one variable are the same or opposite
same_place : (l m : ℤ) → IsLit l → IsLit m → place l ≡ place m → (m ≡ l) ⊎ (neg_ℤ l ≡ m)
same_place (pos zero) m p q e = absurd p
same_place (pos (suc a)) (pos zero) p q e = absurd q
same_place (pos (suc a)) (pos (suc b)) p q e = let s : b ≡ a = omega (arith, e) in inl (ap (λ k. pos (suc k)) s)
same_place (pos (suc a)) (negsuc b) p q e = let s : a ≡ b = omega (arith, e) in inr (ap negsuc s)
same_place (negsuc a) (pos zero) p q e = absurd q
same_place (negsuc a) (pos (suc b)) p q e = let s : a ≡ b = omega (arith, e) in inr (ap (λ k. pos (suc k)) s)
same_place (negsuc a) (negsuc b) p q e = let s : b ≡ a = omega (arith, e) in inl (ap negsuc s)

not_true : (b : Bool) → not b ≡ true → b ≡ false
not_true true h = absurd (true≢false (sym h))
not_true false h = refl

apart : (l m : ℤ) → IsLit l → IsLit m → not (int_eq m l) ≡ true → int_eq (neg_ℤ l) m ≡ false → place l ≢ place m
apart l m p q new other e = elim (same_place l m p q e) [
  | inl same ↦ true≢false (sym ((Decides-int_eq m l).1 same) ∙ not_true (int_eq m l) new)
  | inr opposite ↦ true≢false (sym ((Decides-int_eq (neg_ℤ l) m).1 opposite) ∙ other)
]

-- no literal's opposite stands in the clause
pub record HasNoOpposites (c : Clause) : Type 0 where
  pub at : (i j : ℕ) (d : ℤ) → i < length c → j < length c → int_eq (neg_ℤ (get_or c i d)) (get_or c j d) ≡ false

no_opposites : (c : Clause) → is_tautology c ≡ false → HasNoOpposites c
no_opposites c h = record {
  at = λ i j d lt below. by_bool (int_eq (neg_ℤ (get_or c i d)) (get_or c j d))
      (λ t.
      let here : list_any (int_eq (neg_ℤ (get_or c i d))) c ≡ true = list_any_at (int_eq (neg_ℤ (get_or c i d))) c j d below t in
      absurd (true≢false (sym (list_any_at (λ l. list_any (int_eq (neg_ℤ l)) c) c i d lt here) ∙ h)))
      (λ f. f);
}

fewer_opposites : (l : ℤ) (ls : Clause) → HasNoOpposites (l ∷ ls) → HasNoOpposites ls
fewer_opposites l ls h = record { at = λ i j d lt below. h.at (suc i) (suc j) d (omega (arith, lt)) (omega (arith, below)) }

all_lits : (c : Clause) → AreLits c → All IsLit c
all_lits [] h = All-nil IsLit
all_lits (l ∷ ls) h = All-cons IsLit l ls h.0 (all_lits ls h.1)

pub all-once : (P : ℤ → Type 0) (c : Clause) → All P c → All P (once c)
all-once P [] h = All-nil P
all-once P (l ∷ ls) h = All-cons P l (filter (λ m. not (int_eq m l)) (once ls)) (All-head P l ls h) (All-filter (λ m. not (int_eq m l)) P (once ls) (all-once P ls (All-tail P l ls h)))

once_different : (c : Clause) → AreLits c → HasNoOpposites c → AllPairs IsApart (once c)
once_different [] lits h = λ i j d lt below. absurd (omega (arith, below))
once_different (l ∷ ls) lits h =
    let p : ℤ → Bool = λ m. not (int_eq m l) in
    let kept = filter p (once ls) in
    let other : ℤ → Type 0 = λ m. int_eq (neg_ℤ l) m ≡ false in
    let far : All other ls = λ j d below. h.at zero (suc j) d (omega arith) (omega (arith, below)) in
    let far_kept : All other kept = All-filter p other (once ls) (all-once other ls far) in
    let lits_kept : All IsLit kept = All-filter p IsLit (once ls) (all-once IsLit ls (all_lits ls lits.1)) in
    let new : All (λ m. p m ≡ true) kept = filter_passes p (once ls) in
    AllPairs-cons IsApart l kept
    (λ i d lt. apart l (get_or kept i d) lits.0 (lits_kept i d lt) (new i d lt) (far_kept i d lt))
    (AllPairs-filter IsApart p (once ls) (once_different ls lits.1 (fewer_opposites l ls h)))

pub tidy-different : (c : Clause) → AreLits c → is_tautology c ≡ false → AreDifferent (once c)
tidy-different c lits h = once_different c lits (no_opposites c h)
