use Rattle.std.proofs.Common.{◌≡◌, ◌<◌, ℕ}
use Rattle.ps_table.specs.Prices.{price_to, IsNarrowPrice}
use Rattle.ps_table.proofs.table.Table.fraction_price.Given as goal

abbrev pub invariant-loop-m : goal.invariant-loop-m
invariant-loop-m l = record {
  value : l.sum ≡ price_to l.self l.costs l.number l.m;
  narrow : (i : ℕ) → i < l.m → IsNarrowPrice l.self l.costs l.number i;
}
