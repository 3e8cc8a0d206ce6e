use Rattle.std.proofs.Common.{rules}
use Rattle.std.proofs.lemmas.Fn.{always_returns_same}
use Rattle.ps_support.proofs.example.in_order.Goals as goal

pub returns-clause-moved : goal.returns-clause-moved
returns-clause-moved c = rw c.from_vec.ensures c.in_ok-sort_by_key.ensures.permutation

pub returns-clause-order : goal.returns-clause-order
returns-clause-order c =
    rw c.from_vec.ensures (c.in_ok-sort_by_key.ensures.sorted (λ s. record { 0 = s.weight }) (always_returns_same _ _ _ (λ a r q k. search rules)))
