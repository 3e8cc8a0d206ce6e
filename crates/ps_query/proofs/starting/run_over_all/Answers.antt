use Rattle.std.proofs.Common.{Bool, List, sym, subst}
use Rattle.ps_runs.specs.Kept.{IsChoice, AreAllKept}
use Rattle.ps_query.proofs.Whole.{found_over_all}
use Rattle.ps_query.proofs.starting.run_over_all.Goals as goal

pub returns : goal.returns
returns c = found_over_all c.args.problem.now c.as_slice.result.now c.args.query c.args.limits c.new.result (subst (λ (ks : List Bool). IsChoice ks c.args.problem.now) (sym c.as_slice.ensures) c.in_ok-kept.ensures.each)
    (subst AreAllKept (sym c.as_slice.ensures) c.in_ok-kept.ensures.all) c.new.ensures
