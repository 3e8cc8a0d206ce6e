use Rattle.ps_explain.specs.Steps.{AreNeeded, IsConflict}
use Rattle.ps_explain.proofs.irreducible.narrow.Given as goal

abbrev pub invariant-loop-place : goal.invariant-loop-place
invariant-loop-place g l = record {
  conflict : IsConflict l.means.trials.now l.conflict;
  needed : AreNeeded l.means.trials.now l.conflict.kept l.place;
}
