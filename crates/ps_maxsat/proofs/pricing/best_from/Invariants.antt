use Rattle.std.proofs.Common.{◌≡◌, ◌≤◌, ◌^◌, ◌-◌, unsigned_abs, pos, ◌≤ℤ◌}
use Rattle.std.specs.Prelude.{IsTrue}
use Rattle.ps_maxsat.specs.Values.{IsOf, NoneIsAbove, HoldsLast, most_value}
use Rattle.ps_maxsat.proofs.Halving.{IsHalved}
use Rattle.ps_maxsat.proofs.pricing.best_from.Given as goal

abbrev pub invariant-loop-found : goal.invariant-loop-found
invariant-loop-found g l = record {
  own : IsOf l.wcnf l.assignment l.found;
  least : pos 1 ≤ℤ l.found;
  none : NoneIsAbove l.wcnf l.bound;
  within : l.bound ≤ℤ most_value l.wcnf;
  some : 1 ≤ l.searches;
  halved : IsHalved l.found l.bound l.searches;
  found_size : unsigned_abs l.found ≤ 2 ^ 120;
  bound_size : unsigned_abs l.bound ≤ 2 ^ 120;
  logged : HoldsLast l.wcnf l.found l.bound l.conflicts (g.S.ProofSink.told l.fn.log).tells (g.S.ProofSink.told l.log);
  telling : IsTrue (g.S.ProofSink.told l.fn.log).tells → IsTrue (g.S.ProofSink.told l.log).tells;
  whole : IsTrue (g.S.ProofSink.is_whole l.log);
  same_faults : g.S.ProofSink.faults l.log ≡ g.S.ProofSink.faults l.fn.log;
  same_kind : g.S.ProofSink.takes_memory l.log ≡ g.S.ProofSink.takes_memory l.fn.log;
  same_references : g.S.ProofSink.names l.log ≡ g.S.ProofSink.names l.fn.log;
}

abbrev pub decreases-loop-found : goal.decreases-loop-found
decreases-loop-found g l = 122 - l.searches
