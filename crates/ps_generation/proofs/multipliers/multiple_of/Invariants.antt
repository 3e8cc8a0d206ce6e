use Rattle.std.proofs.Common.{◌≡◌, ◌<◌, ◌≤◌}
use Rattle.ps_meaning.specs.declared.limits.TheConstants.{PRINTED_LIMIT}
use Rattle.ps_generation.specs.Rows.{multiple_before}
use Rattle.ps_generation.proofs.multipliers.multiple_of.Given as goal

abbrev pub invariant-loop-i : goal.invariant-loop-i
invariant-loop-i l = record {
  value : l.multiple ≡ multiple_before l.numbers l.i;
  positive : 0 < l.multiple;
  small : l.multiple ≤ PRINTED_LIMIT;
}
