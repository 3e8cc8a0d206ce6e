use Rattle.std.proofs.Common.{◌≡◌, ◌*◌, ◌^◌, pos, ◌≤ℤ◌, take}
use Rattle.ps_meaning.specs.Formula.{Atom}
use Rattle.ps_meaning.specs.Distribution.{weight}
use Rattle.ps_valid.specs.Valuations.{valued_entries}
use Rattle.ps_valid.proofs.truth.weight_of.Given as goal

abbrev pub invariant-loop-valuation : goal.invariant-loop-valuation
invariant-loop-valuation l = record {
  so_far : l.sum ≡ weight (valued_entries (take l.valuation-index l.valued)) (Atom l.node);
  low : pos 0 ≤ℤ l.sum;
  high : l.sum ≤ℤ pos (l.valuation-index * 2 ^ 90);
}
