-- The sizes and places of weighted literals, and the base of values.
use Rattle.std.proofs.Common.{◌≡◌, ℕ, zero, suc, ◌+◌, ◌<◌, ◌≤◌, ℤ, pos, ◌+ℤ◌, ◌≤ℤ◌, false, cond, List, [], ◌∷◌, ◌++◌, length, map, take, get_or, arith, sym, ap, ◌∙◌}
use Rattle.std.specs.Prelude.{nat_lt}
use Rattle.std.specs.List.{All}
use Rattle.std.proofs.lemmas.Int.{ints}
use Rattle.std.proofs.lemmas.List.{take_more, take_all}
use Rattle.std.proofs.lemmas.List.Elements.{All-head, All-tail}
use Rattle.ps_pb.specs.Weights.{size_sum}
use Rattle.ps_pb.proofs.Bounds.{size_sum-append}
use Rattle.ps_clause.specs.Clauses.{Clause, once, is_tautology}
use Rattle.ps_clause.proofs.Tidy.{by_bool}
use Rattle.ps_wcnf.specs.Costs.{Soft}
use Rattle.ps_wcnf.specs.Limits.{IsWeight, weight_sum}
use Rattle.ps_wcnf.specs.Valued.{has_several, after, own_literal, own_literals, always}
use Rattle.ps_wcnf.proofs.Drafts.{sum-some}
use Rattle.ps_wcnf.proofs.Weighed.{IsPart, gain-within}

few-size : (k : ℤ) (c : Clause) → pos 1 ≤ℤ k → nat_lt 1 (length c) ≡ false → pos (size_sum (map (λ l. (l, k)) c)) ≤ℤ k
few-size k [] some h = omega (arith, ints, some)
few-size k (l ∷ []) some h = omega (arith, ints, some)
few-size k (l ∷ m ∷ ls) some h = absurd (grind (arith, h))

literal-size : (n : ℕ) (s : Soft) → pos 1 ≤ℤ s.0 → pos (size_sum (own_literal n s)) ≤ℤ s.0
literal-size n s some = by_bool (is_tautology s.1)
    (λ t. rw t (omega (arith, ints, some)))
    (λ f. by_bool (has_several s.1)
    (λ m. rw (f, m) (omega (arith, ints, some)))
    (λ o. rw (f, o) (few-size s.0 (once s.1) some o)))

pub literals-size : (n : ℕ) (ss : List Soft) → All IsWeight ss → pos (size_sum (own_literals n ss)) ≤ℤ weight_sum ss
literals-size n [] h = omega (arith, ints)
literals-size n (s ∷ ss) h =
    let a = size_sum-append (own_literal n s) (own_literals (after n s) ss) in
    let b = literal-size n s (All-head IsWeight s ss h) in
    let r = literals-size (after n s) ss (All-tail IsWeight s ss h) in
    omega (arith, ints, a, b, r)

abbrev pub part : Soft → ℤ
part s = cond (is_tautology s.1) s.0 (pos 0)

always-push : (ss : List Soft) (s : Soft) → always (ss ++ s ∷ []) ≡ always ss +ℤ part s
always-push [] s = omega (arith, ints)
always-push (t ∷ ss) s = let r = always-push ss s in omega (arith, ints, r)

pub always-more : (ss : List Soft) (i : ℕ) (s : Soft) (sum : ℤ) → i < length ss → s ≡ get_or ss i s → sum ≡ always (take i ss) → sum +ℤ part s ≡ always (take (i + 1) ss)
always-more ss i s sum lt is so =
    let more : take (i + 1) ss ≡ take i ss ++ s ∷ [] = take_more ss i s lt ∙ ap (λ x. take i ss ++ x ∷ []) (sym is) in
    ap (λ x. x +ℤ part s) so ∙ sym (ap always more ∙ always-push (take i ss) s)

pub always-part : (ss : List Soft) (i : ℕ) → All IsWeight ss → IsPart ss (always (take i ss))
always-part ss zero h = record { low = omega (arith, ints); high = sum-some ss h }
always-part [] (suc i) h = record { low = omega (arith, ints); high = omega (arith, ints) }
always-part (s ∷ ss) (suc i) h =
    let r = always-part ss i (All-tail IsWeight s ss h) in
    let both = gain-within (is_tautology s.1) s.0 (always (take i ss)) (weight_sum ss) (All-head IsWeight s ss h) r.low r.high in
    record { low = both.0; high = both.1 }

pub always-all : (ss : List Soft) (i : ℕ) (sum : ℤ) → length ss ≤ i → sum ≡ always (take i ss) → sum ≡ always ss
always-all ss i sum most so = so ∙ ap always (take_all i ss most)
