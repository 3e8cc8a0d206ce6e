use Rattle.std.proofs.Common.{sym, subst}
use Rattle.ps_sat.specs.Keeping.{HasSeenLower}
use Rattle.ps_sat.proofs.Stepping.{all-lower}
use Rattle.trials.proofs.propagations.make_move.Goals as goal

pub go_back-requires-in-None-decide_one-clause-lower : goal.go_back-requires-in-None-decide_one-clause-lower
go_back-requires-in-None-decide_one-clause-lower c =
    subst (HasSeenLower c.propagate.new.self) (sym c.in-None-decide_one.ensures.none) (all-lower c.propagate.new.self c.propagate.new.trail c.in-None.ensures.seen)
