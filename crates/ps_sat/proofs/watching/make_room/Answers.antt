use Rattle.std.proofs.Common.{arith, ap, length}
use Rattle.ps_sat.proofs.watching.make_room.Goals as goal

pub returns-clause-ok : goal.returns-clause-ok
returns-clause-ok c =
    let size = ap length c.reserve-2.ensures.items in
    record {
      next = omega (arith, c.in_ok-reserve.ensures.ok, c.reserve.new.self.ok.0, ap length c.reserve.ensures.items, c.requires.nodes, size);
      lits = omega (arith, c.in_ok-reserve-2.ensures.ok, c.reserve-2.new.self.ok.0, size);
      others = omega (arith, c.in_ok-reserve-3.ensures.ok, c.reserve-3.new.self.ok.0, ap length c.reserve-3.ensures.items, c.requires.others, size);
      ids = omega (arith, c.in_ok-reserve-4.ensures.ok, c.reserve-4.new.self.ok.0, ap length c.reserve-4.ensures.items, c.requires.ids, size);
    }
