-- Costs and gains, clause by clause.
use Rattle.std.proofs.Common.{◌≡◌, ℕ, zero, suc, ◌+◌, ◌<◌, ◌≤◌, ℤ, pos, ◌+ℤ◌, ◌≤ℤ◌, Bool, true, false, cond, List, [], ◌∷◌, ◌++◌, length, take, get_or, arith, sym, ap, ◌∙◌}
use Rattle.std.specs.List.{All}
use Rattle.std.proofs.lemmas.Int.{ints}
use Rattle.std.proofs.lemmas.List.{take_more, take_all}
use Rattle.std.proofs.lemmas.List.Elements.{All-head, All-tail}
use Rattle.ps_clause.specs.Clauses.{meets}
use Rattle.ps_wcnf.specs.Costs.{Soft, cost, gain, cost_part, gain_part}
use Rattle.ps_wcnf.specs.Limits.{IsWeight, weight_sum}
use Rattle.ps_wcnf.proofs.Drafts.{sum-some}

-- costs and gains of the clauses before a place
pub record AreWeighed (w : List Bool) (ss : List Soft) (i : ℕ) (costs gains : ℤ) : Type 0 where
  pub costs_are : costs ≡ cost w (take i ss)
  pub gains_are : gains ≡ gain w (take i ss)

cost-push : (w : List Bool) (ss : List Soft) (s : Soft) → cost w (ss ++ s ∷ []) ≡ cost w ss +ℤ cost_part w s
cost-push w [] s = omega (arith, ints)
cost-push w (t ∷ ss) s = let r = cost-push w ss s in omega (arith, ints, r)

gain-push : (w : List Bool) (ss : List Soft) (s : Soft) → gain w (ss ++ s ∷ []) ≡ gain w ss +ℤ gain_part w s
gain-push w [] s = omega (arith, ints)
gain-push w (t ∷ ss) s = let r = gain-push w ss s in omega (arith, ints, r)

pub weighed-more : (w : List Bool) (ss : List Soft) (i : ℕ) (s : Soft) (costs gains : ℤ) → i < length ss → s ≡ get_or ss i s → AreWeighed w ss i costs gains
    → AreWeighed w ss (i + 1) (costs +ℤ cost_part w s) (gains +ℤ gain_part w s)
weighed-more w ss i s costs gains lt is so =
    let more : take (i + 1) ss ≡ take i ss ++ s ∷ [] = take_more ss i s lt ∙ ap (λ x. take i ss ++ x ∷ []) (sym is) in
    record {
      costs_are = ap (λ x. x +ℤ cost_part w s) so.costs_are ∙ sym (ap (cost w) more ∙ cost-push w (take i ss) s);
      gains_are = ap (λ x. x +ℤ gain_part w s) so.gains_are ∙ sym (ap (gain w) more ∙ gain-push w (take i ss) s);
    }

-- a part of the weights
pub record IsPart (ss : List Soft) (z : ℤ) : Type 0 where
  pub low : pos 0 ≤ℤ z
  pub high : z ≤ℤ weight_sum ss

cost-within : (b : Bool) (k x s : ℤ) → pos 1 ≤ℤ k → pos 0 ≤ℤ x → x ≤ℤ s → (pos 0 ≤ℤ (cond b (pos 0) k +ℤ x)) × ((cond b (pos 0) k +ℤ x) ≤ℤ (k +ℤ s))
cost-within true k x s a b c = (omega (arith, ints, a, b, c), omega (arith, ints, a, b, c))
cost-within false k x s a b c = (omega (arith, ints, a, b, c), omega (arith, ints, a, b, c))

pub gain-within : (b : Bool) (k x s : ℤ) → pos 1 ≤ℤ k → pos 0 ≤ℤ x → x ≤ℤ s → (pos 0 ≤ℤ (cond b k (pos 0) +ℤ x)) × ((cond b k (pos 0) +ℤ x) ≤ℤ (k +ℤ s))
gain-within true k x s a b c = (omega (arith, ints, a, b, c), omega (arith, ints, a, b, c))
gain-within false k x s a b c = (omega (arith, ints, a, b, c), omega (arith, ints, a, b, c))

pub cost-part : (w : List Bool) (ss : List Soft) (i : ℕ) → All IsWeight ss → IsPart ss (cost w (take i ss))
cost-part w ss zero h = record { low = omega (arith, ints); high = sum-some ss h }
cost-part w [] (suc i) h = record { low = omega (arith, ints); high = omega (arith, ints) }
cost-part w (s ∷ ss) (suc i) h =
    let r = cost-part w ss i (All-tail IsWeight s ss h) in
    let both = cost-within (meets w s.1) s.0 (cost w (take i ss)) (weight_sum ss) (All-head IsWeight s ss h) r.low r.high in
    record { low = both.0; high = both.1 }

pub gain-part : (w : List Bool) (ss : List Soft) (i : ℕ) → All IsWeight ss → IsPart ss (gain w (take i ss))
gain-part w ss zero h = record { low = omega (arith, ints); high = sum-some ss h }
gain-part w [] (suc i) h = record { low = omega (arith, ints); high = omega (arith, ints) }
gain-part w (s ∷ ss) (suc i) h =
    let r = gain-part w ss i (All-tail IsWeight s ss h) in
    let both = gain-within (meets w s.1) s.0 (gain w (take i ss)) (weight_sum ss) (All-head IsWeight s ss h) r.low r.high in
    record { low = both.0; high = both.1 }

pub costs-all : (w : List Bool) (ss : List Soft) (i : ℕ) (costs gains : ℤ) → length ss ≤ i → AreWeighed w ss i costs gains → costs ≡ cost w ss
costs-all w ss i costs gains most so = so.costs_are ∙ ap (cost w) (take_all i ss most)

pub gains-all : (w : List Bool) (ss : List Soft) (i : ℕ) (costs gains : ℤ) → length ss ≤ i → AreWeighed w ss i costs gains → gains ≡ gain w ss
gains-all w ss i costs gains most so = so.gains_are ∙ ap (gain w) (take_all i ss most)
