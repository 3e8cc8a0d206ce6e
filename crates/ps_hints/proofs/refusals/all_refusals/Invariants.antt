use Rattle.std.proofs.Common.{◌≡◌, Some, All}
use Rattle.std.specs.Prelude.{slice_get}
use Rattle.ps_hints.specs.Refusals.{AreBlanked, IsToldOf}
use Rattle.ps_hints.proofs.refusals.all_refusals.Given as goal

abbrev pub invariant-loop-turn : goal.invariant-loop-turn
invariant-loop-turn l = record {
  first : slice_get l.told.items 0 ≡ Some l.fn.first;
  told : All (IsToldOf l.bytes) l.told.items;
  left : AreBlanked l.bytes l.text.items;
}
