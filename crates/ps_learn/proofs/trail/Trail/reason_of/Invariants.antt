use Rattle.std.proofs.Common.{◌≡◌, drop}
use Rattle.ps_learn.specs.Trails.{entry_of}
use Rattle.ps_learn.proofs.trail.Trail.reason_of.Given as goal

abbrev pub invariant-loop-entry : goal.invariant-loop-entry
invariant-loop-entry l = entry_of l.var l.self.entries ≡ entry_of l.var (drop l.entry-index l.entry-items)
