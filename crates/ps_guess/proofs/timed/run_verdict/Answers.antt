use Rattle.std.proofs.Common.{List, subst, sym}
use Rattle.ps_answer.specs.declared.answer.Verdict.{Verdict}
use Rattle.ps_answer.specs.declared.answer.Verdict.TheVariants.{Consistent}
use Rattle.ps_problem.specs.Problems.{Parts}
use Rattle.ps_query.specs.Parts.{IsVerdictOf}
use Rattle.ps_table.specs.declared.event.Event.{Event}
use Rattle.ps_guess.specs.Solutions.{IsAnsweredVerdict}
use Rattle.ps_guess.proofs.KnownLaws.{run_consistent}
use Rattle.ps_guess.proofs.timed.run_verdict.Goals as goal

pub returns-in-Consistent-clause-told : goal.returns-in-Consistent-clause-told
returns-in-Consistent-clause-told c =
    let own = c.limits_at-own.result in
    let now = c.args.trials.now in
    let events = c.in_ok-verdict.field-0-1 in
    let run = subst (λ (x : Parts). IsVerdictOf own x c.in_ok-verdict.verdict events) c.problem-2.ensures.is c.in_ok-verdict.ensures in
    let told = subst (λ (v : Verdict). IsVerdictOf own now v events) c.in-Consistent.is run in
    subst (λ (es : List Event). IsAnsweredVerdict c.args.limits now (Consistent c.in-Consistent.model) es) (sym c.new.ensures)
    (run_consistent c.args.limits own now c.in-Consistent.model events told)
