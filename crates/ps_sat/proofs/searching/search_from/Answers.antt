use Rattle.std.proofs.Common.{refl}
use Rattle.ps_sat.proofs.Handing.{begins-none, begins-after, logged-nothing, logged-stays, logged-after, counts-err, hints-decided}
use Rattle.ps_sat.proofs.searching.search_from.Goals as goal

pub returns-in_err-kept-clause-logged : goal.returns-in_err-kept-clause-logged
returns-in_err-kept-clause-logged g c = logged-nothing c.args.base.now c.args.goal.now c.args.conflicts _ c.from_residual.result c.from_residual.ensures.0

pub returns-in_err-order-clause-logged : goal.returns-in_err-order-clause-logged
returns-in_err-order-clause-logged g c = logged-nothing c.args.base.now c.args.goal.now c.args.conflicts _ c.from_residual-in_err-order.result c.from_residual-in_err-order.ensures.0

pub returns-clause-logged : goal.returns-clause-logged
returns-clause-logged g c = logged-after c.args.base.now c.args.goal.now c.args.conflicts _ _ _ c.learn_all.result c.in_ok-begin.ensures.ok c.learn_all.ensures.logged

pub returns-clause-hints : goal.returns-clause-hints
returns-clause-hints g c = hints-decided c.args.base.now c.args.goal.now c.args.conflicts (g.S.ProofSink.told c.begin.new.log) _ c.learn_all.result c.learn_all.ensures.outcome c.learn_all.ensures.logged

pub returns-in_err-kept-clause-begun : goal.returns-in_err-kept-clause-begun
returns-in_err-kept-clause-begun g c = begins-none c.from_residual.result _ c.from_residual.ensures.0

pub returns-in_err-order-clause-begun : goal.returns-in_err-order-clause-begun
returns-in_err-order-clause-begun g c = begins-none c.from_residual-in_err-order.result _ c.from_residual-in_err-order.ensures.0

pub returns-in_err-begin-clause-begun : goal.returns-in_err-begin-clause-begun
returns-in_err-begin-clause-begun g c = begins-after c.from_residual-in_err-begin.result (g.S.ProofSink.begins c.args.log.now) (g.S.ProofSink.begins c.begin.new.log) (g.S.ProofSink.begins c.begin.new.log) c.begin.ensures.begun refl

pub returns-clause-begun : goal.returns-clause-begun
returns-clause-begun g c = begins-after c.learn_all.result (g.S.ProofSink.begins c.args.log.now) (g.S.ProofSink.begins c.begin.new.log) _ c.begin.ensures.begun c.learn_all.ensures.same_begins

pub returns-in_err-begin-clause-logged : goal.returns-in_err-begin-clause-logged
returns-in_err-begin-clause-logged g c = logged-stays c.args.base.now c.args.goal.now c.args.conflicts _ _ c.from_residual-in_err-begin.result c.from_residual-in_err-begin.ensures.0 c.in_err-begin.ensures.err

pub returns-in_err-begin-clause-counted : goal.returns-in_err-begin-clause-counted
returns-in_err-begin-clause-counted g c =
    let counted = c.in_err-begin.ensures.counted in
    counts-err _ _ _ _ _ c.from_residual-in_err-begin.ensures.0 c.from_residual-in_err-begin.ensures.1 refl counted.later counted.err
