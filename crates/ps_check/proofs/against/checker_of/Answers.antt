use Rattle.std.proofs.Common.{ap, ◌∙◌}
use Rattle.std.proofs.lemmas.Result.{IfOk-weaker}
use Rattle.ps_claims.specs.Certificates.{dual_of}
use Rattle.ps_clause.specs.Forms.{form_of}
use Rattle.ps_claims.specs.Goals.{goal_of}
use Rattle.ps_pbcheck.specs.Checked.{first_checked}
use Rattle.ps_check.proofs.Weighed.{checker_asked}
use Rattle.ps_check.proofs.against.checker_of.Goals as goal

pub returns : goal.returns
returns c = IfOk-weaker c.checker_of.result _ _ (λ checker e. checker_asked c.args.problem.now c.args.subject.now (dual_of c.args.dual.now) c.asked_by-kind.result checker c.asked_by-kind.ensures
    (e ∙ ap (λ sum. first_checked (form_of c.args.problem.now.nodes) (goal_of sum)) c.in_ok-sum.ensures.exact)) c.checker_of.ensures
