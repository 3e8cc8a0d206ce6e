use Rattle.std.proofs.Common.{sym, ◌∙◌}
use Rattle.ps_claims.specs.Certificates.{dual_of}
use Rattle.ps_valid.specs.Aims.{aim_of}
use Rattle.ps_valid.proofs.DualFaults.{run_refutes, run_open, run_found}
use Rattle.ps_valid.proofs.refuting.first_in_run.Goals as goal

pub returns-then-refuted : goal.returns-then-refuted
returns-then-refuted c =
    let d = dual_of c.args.dual.now in
    run_refutes c.args.problem.now (aim_of c.args.kind c.args.given c.args.both) d
    (run_found c.args.problem.now c.args.kind c.args.given c.args.both d c.in_ok-sum.sum c.in_ok-checker.checker _ c.in_ok-checker.ensures c.in_ok-sum.ensures.exact
    (sym c.in_default.is ∙ (rw c.as_slice.ensures at c.in_ok-step.ensures.found)))
    (sym (rw c.as_slice.ensures at (c.in_ok-step.ensures.ends c.in_default.is)) ∙ (sym c.refuted.ensures.value ∙ c.if-refuted.true))

pub returns : goal.returns
returns c =
    let d = dual_of c.args.dual.now in
    run_open c.args.problem.now (aim_of c.args.kind c.args.given c.args.both) d
    (run_found c.args.problem.now c.args.kind c.args.given c.args.both d c.in_ok-sum.sum c.in_ok-checker.checker _ c.in_ok-checker.ensures c.in_ok-sum.ensures.exact
    (sym c.in_default.is ∙ (rw c.as_slice.ensures at c.in_ok-step.ensures.found)))
    (sym (rw c.as_slice.ensures at (c.in_ok-step.ensures.ends c.in_default.is)) ∙ (sym c.refuted.ensures.value ∙ c.if-refuted.false))
