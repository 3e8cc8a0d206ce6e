use Rattle.std.proofs.Common.{◌≡◌, ◌≤◌, ◌-◌}
use Rattle.ps_check.specs.Intakes.{IsSound, HasCome}
use Rattle.ps_check.proofs.reading.take_all.Given as goal

abbrev pub invariant-loop-n : goal.invariant-loop-n
invariant-loop-n g l = record {
  sound : IsSound l.intake;
  came : HasCome l.intake l.taken (g.I.Source.left l.initial.source) (g.I.Source.left l.source);
  within : l.taken ≤ l.limit;
  no_fault : g.I.Source.faults l.source ≡ g.I.Source.faults l.initial.source;
}

abbrev pub decreases-loop-n : goal.decreases-loop-n
decreases-loop-n g l = l.limit - l.taken
