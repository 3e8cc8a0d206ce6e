-- What soft clauses add to a value, and what they gain.
use Rattle.std.proofs.Common.{◌≡◌, ℕ, zero, suc, ℤ, pos, ◌+ℤ◌, ◌≤ℤ◌, Bool, true, false, not, cond, ◌&&◌, ◌||◌, List, [], ◌∷◌, ◌++◌, length, map, drop, get_or, arith, refl, sym, ap, ◌∙◌, true≢false}
use Rattle.std.specs.Prelude.{nat_lt}
use Rattle.std.specs.List.{list_any, list_all}
use Rattle.std.proofs.lemmas.Int.{ints}
use Rattle.std.proofs.lemmas.List.Folds.{list_all-append, list_any-append}
use Rattle.ps_pb.specs.Assignments.{holds}
use Rattle.ps_pb.specs.Weights.{Weighted, true_weight}
use Rattle.ps_clause.specs.Clauses.{Clause, meets, negative, once, is_tautology}
use Rattle.ps_clause.proofs.Tidy.{AreLits, by_bool, met-once, met-tidy, holds-positive, holds-negative}
use Rattle.ps_wcnf.specs.Costs.{Soft, gain}
use Rattle.ps_wcnf.specs.Valued.{has_several, is_long, after, own_clause, own_clauses, own_literal, own_literals, always}
use Rattle.ps_wcnf.proofs.Named.{SoftNamed, named-lits}

true_weight-append : (v : List Bool) (ts us : Weighted) → true_weight v (ts ++ us) ≡ true_weight v ts +ℤ true_weight v us
true_weight-append v [] us = omega (arith, ints)
true_weight-append v (t ∷ ts) us = omega (arith, ints, true_weight-append v ts us)

-- at most one literal
weights-few : (v : List Bool) (k : ℤ) (c : Clause) → nat_lt 1 (length c) ≡ false → true_weight v (map (λ l. (l, k)) c) ≡ cond (list_any (holds v) c) k (pos 0)
weights-few v k [] h = refl
weights-few v k (l ∷ []) h = by_bool (holds v l) (λ t. rw t (omega (arith, ints))) (λ f. rw f (omega (arith, ints)))
weights-few v k (l ∷ m ∷ ls) h = absurd (grind (arith, h))

pub and-left : (x y : Bool) → (x && y) ≡ true → x ≡ true
and-left true y h = refl
and-left false y h = absurd (true≢false (sym h))

pub and-right : (x y : Bool) → (x && y) ≡ true → y ≡ true
and-right true y h = h
and-right false y h = absurd (true≢false (sym h))

pub both-true : (x y : Bool) → x ≡ true → y ≡ true → (x && y) ≡ true
both-true x y e f = rw (e, f) refl

-- a clause with a literal and its opposite is always met
tautology-met : (v : List Bool) (c : Clause) → AreLits c → is_tautology c ≡ true → meets v c ≡ true
tautology-met v c lits t = let none : true ≡ (meets v c && true) = rw t at (met-tidy v (c ∷ []) (lits, tt)) in and-left (meets v c) true (sym none)

-- a value of the clause's own variable, and one of its literals
long-most : (m r : Bool) (k : ℤ) → pos 0 ≤ℤ k → ((m || (not r || false)) && true) ≡ true → ((cond r k (pos 0) +ℤ pos 0) +ℤ pos 0) ≤ℤ cond m k (pos 0)
long-most true true k some h = omega (arith, ints)
long-most true false k some h = omega (arith, ints)
long-most false true k some h = absurd (true≢false (sym h))
long-most false false k some h = omega (arith, ints)

-- the own clause of a long clause
long-clause : (n : ℕ) (v : List Bool) (c : Clause) → meets v (c ++ negative n ∷ []) ≡ (meets v c || (not (get_or v n false) || false))
long-clause n v c = list_any-append (holds v) c (negative n ∷ []) ∙ ap (λ b. meets v c || (b || false)) (holds-negative v n)

own-most : (n : ℕ) (v : List Bool) (s : Soft) → AreLits s.1 → pos 1 ≤ℤ s.0 → list_all (meets v) (own_clause n s) ≡ true
    → (true_weight v (own_literal n s) +ℤ cond (is_tautology s.1) s.0 (pos 0)) ≤ℤ cond (meets v s.1) s.0 (pos 0)
own-most n v s lits some met = by_bool (is_tautology s.1)
    (λ t. rw (t, tautology-met v s.1 lits t) (omega (arith, ints)))
    (λ f. by_bool (has_several s.1)
    (λ m. rw (f, m, holds-positive v n) (long-most (meets v s.1) (get_or v n false) s.0 (omega (arith, ints, some)) (rw (f, m, long-clause n v s.1) at met)))
    (λ o. rw (f, o, weights-few v s.0 (once s.1) o, met-once (holds v) s.1) (omega (arith, ints))))

-- where the own clauses are met, no more is added than is gained
pub owns-most : (n most : ℕ) (v : List Bool) (ss : List Soft) → SoftNamed most ss → list_all (meets v) (own_clauses n ss) ≡ true
    → (true_weight v (own_literals n ss) +ℤ always ss) ≤ℤ gain v ss
owns-most n most v [] named met = omega (arith, ints)
owns-most n most v (s ∷ ss) named met =
    let parts = list_all-append (meets v) (own_clause n s) (own_clauses (after n s) ss) in
    let both : (list_all (meets v) (own_clause n s) && list_all (meets v) (own_clauses (after n s) ss)) ≡ true = sym parts ∙ met in
    let first = own-most n v s (named-lits most s.1 named.1) named.0 (and-left (list_all (meets v) (own_clause n s)) (list_all (meets v) (own_clauses (after n s) ss)) both) in
    let others = owns-most (after n s) most v ss named.2 (and-right (list_all (meets v) (own_clause n s)) (list_all (meets v) (own_clauses (after n s) ss)) both) in
    let sum = true_weight-append v (own_literal n s) (own_literals (after n s) ss) in
    omega (arith, ints, first, others, sum)

-- the values of the soft clauses' own variables: whether a literal is true
abbrev pub own_values : List Bool → List Soft → List Bool
own_values w [] = []
own_values w (s ∷ ss) = (cond (is_long s.1) (meets w s.1 ∷ []) []) ++ own_values w ss

own-equal : (n : ℕ) (v : List Bool) (s : Soft) → AreLits s.1 → (is_long s.1 ≡ true → get_or v n false ≡ meets v s.1)
    → (true_weight v (own_literal n s) +ℤ cond (is_tautology s.1) s.0 (pos 0)) ≡ cond (meets v s.1) s.0 (pos 0)
own-equal n v s lits own = by_bool (is_tautology s.1)
    (λ t. rw (t, tautology-met v s.1 lits t) (omega (arith, ints)))
    (λ f. by_bool (has_several s.1)
    (λ m. rw (f, m, holds-positive v n, own (rw (f, m) refl)) (omega (arith, ints)))
    (λ o. rw (f, o, weights-few v s.0 (once s.1) o, met-once (holds v) s.1) (omega (arith, ints))))

same-met : (m r : Bool) → r ≡ m → ((m || (not r || false)) && true) ≡ true
same-met true r e = refl
same-met false true e = absurd (true≢false e)
same-met false false e = refl

own-met : (n : ℕ) (v : List Bool) (s : Soft) → (is_long s.1 ≡ true → get_or v n false ≡ meets v s.1) → list_all (meets v) (own_clause n s) ≡ true
own-met n v s own = by_bool (is_long s.1)
    (λ m. rw (m, long-clause n v s.1) (same-met (meets v s.1) (get_or v n false) (own m)))
    (λ f. rw f refl)

-- the value at a place, and those behind it
pub record Parts (v : List Bool) (n : ℕ) (b : Bool) (rest : List Bool) : Type 0 where
  pub first : get_or v n false ≡ b
  pub others : drop (suc n) v ≡ rest

drop-parts : (v : List Bool) (n : ℕ) (b : Bool) (rest : List Bool) → drop n v ≡ b ∷ rest → Parts v n b rest
drop-parts [] zero b rest h = cc
drop-parts [] (suc n) b rest h = cc
drop-parts (x ∷ v) zero b rest h = record { first = cc; others = cc }
drop-parts (x ∷ v) (suc n) b rest h = let r = drop-parts v n b rest h in record { first = r.first; others = r.others }

-- what comes of the values from a place on
pub record Owns (n : ℕ) (v : List Bool) (s : Soft) (rest : List Bool) : Type 0 where
  pub own : is_long s.1 ≡ true → get_or v n false ≡ meets v s.1
  pub others : drop (after n s) v ≡ rest

own-parts : (n : ℕ) (v : List Bool) (s : Soft) (rest : List Bool) → drop n v ≡ cond (is_long s.1) (meets v s.1 ∷ []) [] ++ rest → Owns n v s rest
own-parts n v s rest h = by_bool (is_long s.1)
    (λ m. let p = drop-parts v n (meets v s.1) rest (rw m at h) in record { own = λ e. p.first; others = rw m p.others })
    (λ f. record { own = λ e. absurd (true≢false (sym e ∙ f)); others = rw f (rw f at h) })

pub record Equals (n : ℕ) (v : List Bool) (ss : List Soft) : Type 0 where
  pub worth : (true_weight v (own_literals n ss) +ℤ always ss) ≡ gain v ss
  pub met : list_all (meets v) (own_clauses n ss) ≡ true

-- where the own variables have those values, as much is added as is gained, and the own clauses are met
pub owns-equal : (n most : ℕ) (v : List Bool) (ss : List Soft) → SoftNamed most ss → drop n v ≡ own_values v ss → Equals n v ss
owns-equal n most v [] named h = record { worth = omega (arith, ints); met = refl }
owns-equal n most v (s ∷ ss) named h =
    let o = own-parts n v s (own_values v ss) h in
    let r = owns-equal (after n s) most v ss named.2 o.others in
    let first = own-equal n v s (named-lits most s.1 named.1) o.own in
    let sum = true_weight-append v (own_literal n s) (own_literals (after n s) ss) in
    let later = r.worth in
    record {
      worth = omega (arith, ints, first, later, sum);
      met = list_all-append (meets v) (own_clause n s) (own_clauses (after n s) ss) ∙ both-true (list_all (meets v) (own_clause n s)) (list_all (meets v) (own_clauses (after n s) ss)) (own-met n v s o.own) r.met;
    }
