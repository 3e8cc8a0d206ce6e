use Rattle.std.proofs.Common.{rules, subst, sym}
use Rattle.ps_problem.specs.Problems.{AreParts}
use Rattle.ps_runs.specs.Kept.{kept_parts}
use Rattle.ps_valid.specs.Judged.{FindsReasonOver}
use Rattle.ps_guess.specs.Trials.{IsFoundModel}
use Rattle.ps_guess.proofs.KeptModels.{kept_model}
use Rattle.ps_guess.proofs.trials.Trials.model_of.Goals as goal

-- src/model.rt:32:5
pub returns-in-None : goal.returns-in-None
returns-in-None c = subst (λ p. IsFoundModel (kept_parts c.args.kept.now p) c.args.model) c.problem-problem.ensures.is
    (kept_model c.problem-problem.result.now c.args.kept.now c.as_slice.result.now c.args.model
    (subst AreParts (sym c.problem-problem.ensures.is) c.problem-problem.ensures.parts) (search rules)
    (subst (λ r. FindsReasonOver c.problem-problem.result.now c.as_slice.result.now c.args.model r) c.in-None.is c.in_ok-reason.ensures.judged) (search rules))
