-- One more literal of a clause, and one more clause.
use Rattle.std.proofs.Common.{◌≡◌, ℕ, ◌+◌, ◌<◌, take, get_or, length, ℤ, Bool, true, false, not, cond, List, [], ◌∷◌, ◌++◌, map, refl, sym, ap, ◌∙◌, true≢false, append_assoc, if◌then◌else◌}
use Rattle.std.specs.List.{list_any, filter}
use Rattle.std.specs.Ordering.{int_eq}
use Rattle.std.proofs.lemmas.Bool.Decides.{Decides-int_eq}
use Rattle.std.proofs.lemmas.List.{take_more}
use Rattle.ps_pb.specs.Constraints.{Constraint}
use Rattle.ps_pb.specs.Weights.{clause_of}
use Rattle.ps_clause.specs.Clauses.{Clause, once, is_tautology, tidy}
use Rattle.ps_clause.proofs.Tidy.{by_bool, same_int, met-once}

-- whether the literal has been met
abbrev pub if_new : ℤ → Bool → Clause → Clause
if_new y old kept = if old then kept else kept ++ y ∷ []

filter-push : (p : ℤ → Bool) (c : Clause) (y : ℤ) → filter p (c ++ y ∷ []) ≡ filter p c ++ (cond (p y) (y ∷ []) [])
filter-push p [] y = refl
filter-push p (l ∷ ls) y = by_bool (p l) (λ t. rw (t, filter-push p ls y) refl) (λ f. rw (f, filter-push p ls y) refl)

append-nil' : (c : Clause) → c ++ [] ≡ c
append-nil' [] = refl
append-nil' (l ∷ ls) = ap (λ r. l ∷ r) (append-nil' ls)

swap_eq : (x y : ℤ) (b : Bool) → int_eq x y ≡ b → int_eq y x ≡ b
swap_eq x y true e = (Decides-int_eq y x).1 (sym (same_int x y e))
swap_eq x y false e = by_bool (int_eq y x) (λ t. absurd (true≢false (sym ((Decides-int_eq x y).1 (sym (same_int y x t))) ∙ e))) (λ f. f)

once-more : (c : Clause) (y : ℤ) → once (c ++ y ∷ []) ≡ if_new y (list_any (int_eq y) c) (once c)
once-more [] y = refl
once-more (l ∷ ls) y = by_bool (int_eq y l)
    (λ t. by_bool (list_any (int_eq y) ls)
    (λ u. rw (t, once-more ls y, u) refl)
    (λ n. rw (t, once-more ls y, n, filter-push (λ m. not (int_eq m l)) (once ls) y, t, append-nil' (filter (λ m. not (int_eq m l)) (once ls))) refl))
    (λ f. by_bool (list_any (int_eq y) ls)
    (λ u. rw (f, once-more ls y, u) refl)
    (λ n. rw (f, once-more ls y, n, filter-push (λ m. not (int_eq m l)) (once ls) y, f) refl))

pub once_push : (c : Clause) (y : ℤ) → once (c ++ y ∷ []) ≡ if_new y (list_any (int_eq y) (once c)) (once c)
once_push c y = once-more c y ∙ ap (λ b. if_new y b (once c)) (sym (met-once (int_eq y) c))

-- what one clause adds
abbrev pub adds : Clause → List Constraint
adds c = map clause_of (tidy (c ∷ []))

pub adds_more : (c : Clause) (cs : List Clause) → map clause_of (tidy (c ∷ cs)) ≡ adds c ++ map clause_of (tidy cs)
adds_more c cs = by_bool (is_tautology c) (λ t. rw t refl) (λ f. rw f refl)

pub adds_two : (s : List Constraint) (a b : Clause) → (s ++ adds a) ++ adds b ≡ s ++ map clause_of (tidy (a ∷ b ∷ []))
adds_two s a b = append_assoc s (adds a) (adds b) ∙ ap (λ r. s ++ r) (sym (adds_more a (b ∷ [])))

pub adds_three : (s : List Constraint) (a b c : Clause) → ((s ++ adds a) ++ adds b) ++ adds c ≡ s ++ map clause_of (tidy (a ∷ b ∷ c ∷ []))
adds_three s a b c = adds_two (s ++ adds a) b c ∙ append_assoc s (adds a) (map clause_of (tidy (b ∷ c ∷ []))) ∙ ap (λ r. s ++ r) (sym (adds_more a (b ∷ c ∷ [])))

pub adds_four : (s : List Constraint) (a b c d : Clause) → (((s ++ adds a) ++ adds b) ++ adds c) ++ adds d ≡ s ++ map clause_of (tidy (a ∷ b ∷ c ∷ d ∷ []))
adds_four s a b c d = adds_three (s ++ adds a) b c d ∙ append_assoc s (adds a) (map clause_of (tidy (b ∷ c ∷ d ∷ []))) ∙ ap (λ r. s ++ r) (sym (adds_more a (b ∷ c ∷ d ∷ [])))

-- one more literal, where it is new and where it was there
pub once_new : (ls : Clause) (i : ℕ) (d : ℤ) → i < length ls → list_any (int_eq (get_or ls i d)) (once (take i ls)) ≡ false
    → once (take (i + 1) ls) ≡ once (take i ls) ++ get_or ls i d ∷ []
once_new ls i d lt new = rw (take_more ls i d lt) (once_push (take i ls) (get_or ls i d) ∙ ap (λ b. if_new (get_or ls i d) b (once (take i ls))) new)

pub once_old : (ls : Clause) (i : ℕ) (d : ℤ) → i < length ls → list_any (int_eq (get_or ls i d)) (once (take i ls)) ≡ true
    → once (take (i + 1) ls) ≡ once (take i ls)
once_old ls i d lt old = rw (take_more ls i d lt) (once_push (take i ls) (get_or ls i d) ∙ ap (λ b. if_new (get_or ls i d) b (once (take i ls))) old)

pub ruleset adds_more_clauses = (adds_two, adds_three, adds_four)
