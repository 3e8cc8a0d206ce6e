use Rattle.ps_sat.proofs.Atoms.{open_decision}
use Rattle.ps_sat.proofs.order.Order.choose.Goals as goal

pub returns : goal.returns
returns c = open_decision c.args.base.now c.args.a.now c.place.result c.value.result c.of_place.result (rw c.place.ensures.value c.in_ok-atom.ensures) c.of_place.ensures
