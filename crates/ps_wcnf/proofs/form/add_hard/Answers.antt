use Rattle.std.proofs.Common.{arith}
use Rattle.ps_wcnf.proofs.Building.{hard-length}
use Rattle.ps_wcnf.proofs.form.add_hard.Goals as goal

pub add_clause-requires-clause-room : goal.add_clause-requires-clause-room
add_clause-requires-clause-room c =
    omega (
      arith,
      c.loop-lits-test.true,
      c.requires.room,
      hard-length c.args.form.now c.args.hard.now c.loop-lits.lits-index c.loop-lits.form (omega (arith, c.loop-lits-test.true)) c.loop-lits.invariant,
    )
