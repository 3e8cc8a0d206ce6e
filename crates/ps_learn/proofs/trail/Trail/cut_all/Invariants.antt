use Rattle.std.proofs.Common.{◌≡◌, length}
use Rattle.ps_learn.specs.Trails.{up_to}
use Rattle.ps_learn.proofs.trail.Trail.cut_all.Given as goal

abbrev pub invariant-cut : goal.invariant-cut
invariant-cut l = record {
  same : up_to l.most l.self ≡ up_to l.most l.initial.self;
  variables : l.self.variables ≡ l.initial.self.variables;
}

abbrev pub decreases-cut : goal.decreases-cut
decreases-cut l = length l.self.entries
