use Rattle.std.proofs.Common.{◌≡◌, ◌≤◌}
use Rattle.ps_hints.proofs.uses.Uses.of.Given as goal

abbrev pub invariant-loop-text : goal.invariant-loop-text
invariant-loop-text l = record {
  line : 1 ≤ l.uses.line;
  unused : l.uses.count ≡ 0 → l.uses.line ≡ 1;
}
