use Rattle.std.proofs.Common.{arith, ap}
use Rattle.ps_clause.specs.Forms.{Form}
use Rattle.ps_wcnf.proofs.Building.{built-more, built-length, after-within, named-at}
use Rattle.ps_wcnf.proofs.form.add_softs.Goals as goal

pub add_soft-requires-clause-variables : goal.add_soft-requires-clause-variables
add_soft-requires-clause-variables c =
    let le = after-within c.args.first c.args.soft.now c.loop-clause.clause-index c.clause-item.result c.loop-clause.n c.loop-clause-test.true c.clause-item.is c.loop-clause.invariant.count in
    let same = ap (λ (g : Form). g.variables) c.loop-clause.invariant.form in
    omega (arith, le, same, c.requires.variables)

pub add_soft-requires-clause-room : goal.add_soft-requires-clause-room
add_soft-requires-clause-room c =
    omega (
      arith,
      c.loop-clause-test.true,
      c.requires.room,
      built-length c.args.form.now c.args.first c.args.soft.now c.loop-clause.clause-index c.loop-clause.form (omega (arith, c.loop-clause-test.true)) c.loop-clause.invariant.form,
    )

pub loop-clause-preserved : goal.loop-clause-preserved
loop-clause-preserved c =
    built-more c.args.form.now c.args.first c.args.soft.now c.loop-clause.clause-index c.clause-item.result c.loop-clause.form c.add_soft.new.form c.loop-clause.literals c.add_soft.new.literals c.loop-clause.n c.in_ok-n.n
    c.loop-clause-test.true c.clause-item.is c.loop-clause.invariant c.in_ok-n.ensures.form c.in_ok-n.ensures.literals c.in_ok-n.ensures.count

pub add_soft-requires-clause-named : goal.add_soft-requires-clause-named
add_soft-requires-clause-named c =
    named-at c.args.first c.args.soft.now c.loop-clause.clause-index c.clause-item.result c.loop-clause.n c.loop-clause-test.true c.clause-item.is c.requires.named c.loop-clause.invariant.count
