use Rattle.ps_sat.proofs.Attached.{ids-more}
use Rattle.ps_sat.proofs.kept.ids_to.Goals as goal

pub loop-place-preserved : goal.loop-place-preserved
loop-place-preserved c = ids-more c.args.clauses c.loop-place.place c.loop-place.ids.items c.push.new.self.items c.in_ok-push.ensures.items c.loop-place.invariant
