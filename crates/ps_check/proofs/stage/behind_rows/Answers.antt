use Rattle.std.proofs.Common.{Some, sym, ap, subst, ◌∙◌}
use Rattle.ps_claims.specs.Certificates.{dual_of}
use Rattle.ps_check.specs.declared.stage.Stage.TheVariants.{Failed}
use Rattle.ps_check.specs.Subjects.{asserted}
use Rattle.ps_check.specs.Progress.{IsWeighed}
use Rattle.ps_check.specs.Found.{Finds}
use Rattle.ps_check.proofs.Weighed.{weighed_open, weighed_failed}
use Rattle.ps_check.proofs.stage.behind_rows.Goals as goal

pub returns-in-NotRefuted : goal.returns-in-NotRefuted
returns-in-NotRefuted c = weighed_open c.args.problem.now c.args.subject c.args.model (dual_of c.args.dual) c.in_ok-checker-in-NotRefuted.checker
    (subst (Finds c.args.problem.now (asserted c.args.problem.now c.args.subject c.args.model (dual_of c.args.dual))) (c.in-Some.is ∙ ap Some c.in-NotRefuted.is) c.in_ok-reason.ensures.told)
    c.in_ok-checker-in-NotRefuted.ensures

pub returns : goal.returns
returns c = subst (λ claim. IsWeighed c.args.problem.now c.args.subject (asserted c.args.problem.now c.args.subject c.args.model (dual_of c.args.dual)) (Failed claim c.in-Some.reason)) (sym c.claim-claim.ensures)
    (weighed_failed c.args.problem.now c.args.subject (asserted c.args.problem.now c.args.subject c.args.model (dual_of c.args.dual)) c.in-Some.reason c.in_default-reason.not-NotRefuted
    (subst (Finds c.args.problem.now (asserted c.args.problem.now c.args.subject c.args.model (dual_of c.args.dual))) c.in-Some.is c.in_ok-reason.ensures.told))
