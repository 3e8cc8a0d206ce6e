-- Tidy clauses are met by the same assignments.
use Rattle.std.proofs.Common.{◌≡◌, ℕ, zero, suc, ◌-◌, ℤ, pos, negsuc, neg_ℤ, Bool, true, false, not, ◌||◌, List, [], ◌∷◌, get_or, refl, sym, ap, ◌∙◌, arith, true≢false}
use Rattle.std.specs.List.{list_any, list_all}
use Rattle.std.specs.Ordering.{int_eq}
use Rattle.std.proofs.lemmas.Bool.Decides.{Decides-int_eq}
use Rattle.std.proofs.lemmas.Map.Views.{any-filter_same}
use Rattle.ps_pb.specs.Assignments.{holds}
use Rattle.ps_pb.proofs.Linear.{agree-true, agree-false}
use Rattle.ps_clause.specs.Clauses.{Clause, meets, positive, negative, once, is_tautology, tidy}

pub holds-positive : (w : List Bool) (i : ℕ) → holds w (positive i) ≡ get_or w i false
unfolding holds
holds-positive w i = let e : suc i - 1 ≡ i = omega arith in rw e (agree-true (get_or w i false))

pub holds-negative : (w : List Bool) (i : ℕ) → holds w (negative i) ≡ not (get_or w i false)
unfolding holds
holds-negative w i = let e : suc i - 1 ≡ i = omega arith in rw e (agree-false (get_or w i false))

-- a literal isn't 0
abbrev pub IsLit : ℤ → Type 0
IsLit (pos zero) = ⊥
IsLit (pos (suc k)) = Unit {0}
IsLit (negsuc k) = Unit {0}

abbrev pub AreLits : Clause → Type 0
AreLits [] = Unit {0}
AreLits (l ∷ ls) = IsLit l × AreLits ls

abbrev pub AreClauses : List Clause → Type 0
AreClauses [] = Unit {0}
AreClauses (c ∷ cs) = AreLits c × AreClauses cs

not-not : (x : Bool) → x ≡ not (not x)
not-not true = refl
not-not false = refl

-- the opposite of a literal is true where it is false
holds-opposite : (w : List Bool) (l : ℤ) → IsLit l → holds w (neg_ℤ l) ≡ not (holds w l)
holds-opposite w (pos zero) h = absurd h
holds-opposite w (pos (suc k)) h = rw (holds-negative w k, holds-positive w k) refl
holds-opposite w (negsuc k) h = rw (holds-negative w k, holds-positive w k) (not-not (get_or w k false))

pub by_bool : {P : Type 0} (b : Bool) → (b ≡ true → P) → (b ≡ false → P) → P
by_bool true t f = t refl
by_bool false t f = f refl

pub same_int : (x y : ℤ) → int_eq x y ≡ true → x ≡ y
same_int x y e = (Decides-int_eq x y).0 e

no_int : (b : Bool) → (b ≡ true → ⊥) → not b ≡ true
no_int true h = absurd (h refl)
no_int false h = refl

-- each literal once: the same literals
pub met-once : (p : ℤ → Bool) (c : Clause) → list_any p (once c) ≡ list_any p c
met-once p [] = refl
met-once p (l ∷ ls) = by_bool (p l)
    (λ t. rw t refl)
    (λ f. rw f (any-filter_same p (λ m. not (int_eq m l)) true
    (λ k t. no_int (int_eq k l) (λ e. true≢false (sym t ∙ ap p (same_int k l e) ∙ f))) (once ls) ∙ met-once p ls))

-- where no literal is true, one that passes another test is false
false_one : (p q : ℤ → Bool) (c : Clause) → AreLits c → list_any p c ≡ false → list_any q c ≡ true → (l : ℤ) × IsLit l × (p l ≡ false) × (q l ≡ true)
false_one p q [] h none some = absurd (true≢false (sym some))
false_one p q (l ∷ ls) h none some = by_bool (p l)
    (λ t. absurd (true≢false (sym (ap (λ b. b || list_any p ls) t) ∙ none)))
    (λ f. by_bool (q l)
    (λ t. (l, h.0, f, t))
    (λ g. false_one p q ls h.1 (sym (ap (λ b. b || list_any p ls) f) ∙ none) (sym (ap (λ b. b || list_any q ls) g) ∙ some)))

-- a clause with a literal and its opposite is always met
tautology-met : (w : List Bool) (c : Clause) → AreLits c → is_tautology c ≡ true → meets w c ≡ true
tautology-met w c h t = by_bool (meets w c) (λ e. e) (λ none.
    let l = false_one (holds w) (λ l. list_any (int_eq (neg_ℤ l)) c) c h none t in
    let m = false_one (holds w) (int_eq (neg_ℤ l.0)) c h none l.3 in
    absurd (true≢false (ap not (sym l.2) ∙ sym (holds-opposite w l.0 l.1) ∙ ap (holds w) (same_int (neg_ℤ l.0) m.0 m.3) ∙ m.2)))

pub met-tidy : (w : List Bool) (cs : List Clause) → AreClauses cs → list_all (meets w) (tidy cs) ≡ list_all (meets w) cs
met-tidy w [] h = refl
met-tidy w (c ∷ cs) h = by_bool (is_tautology c)
    (λ t. rw (t, tautology-met w c h.0 t) (met-tidy w cs h.1))
    (λ f. rw (f, met-once (holds w) c, met-tidy w cs h.1) refl)
