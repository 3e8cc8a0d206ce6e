use Rattle.std.proofs.Common.{sym, ap, subst, Err, ◌∙◌, ◌∷◌}
use Rattle.std.specs.Prelude.{[]}
use Rattle.std.proofs.lemmas.Result.{err_from_is_err_and}
use Rattle.ps_answer.specs.Answers.{answer_items}
use Rattle.ps_answer.specs.ExpectedParts.{at_start}
use Rattle.ps_reader.specs.Taken.{Takes, IsValueRead}
use Rattle.ps_reader.proofs.Whole.{report_line, no_verdict, no_trace, no_parts, all_taken}
use Rattle.ps_reader.proofs.report.answer.Goals as goal

pub returns-in_err-verdict-clause-answer : goal.returns-in_err-verdict-clause-answer
returns-in_err-verdict-clause-answer c =
    let f = err_from_is_err_and c.from_residual-in_err-verdict.result c.from_residual-in_err-verdict.ensures.1 in
    subst (λ r. IsValueRead answer_items at_start c.args.lines.now c.verdict.new.lines r) (sym (f.1 ∙ ap Err f.2))
    (no_verdict c.args.lines.now c.take.new.self c.in_err-verdict.field-0.0 (subst (λ i. Takes c.args.lines.now c.take.new.self (i ∷ [])) (report_line c.in_ok-take.field-0 c.in_ok-take.ensures.fits) c.in_ok-take.ensures.line) c.in_err-verdict.ensures.verdict)

pub returns-in_err-first-clause-answer : goal.returns-in_err-first-clause-answer
returns-in_err-first-clause-answer c =
    let f = err_from_is_err_and c.from_residual-in_err-first.result c.from_residual-in_err-first.ensures.1 in
    subst (λ r. IsValueRead answer_items at_start c.args.lines.now c.trace.new.lines r) (sym (f.1 ∙ ap Err f.2))
    (no_trace c.args.lines.now c.take.new.self c.verdict.new.lines c.in_ok-verdict.verdict c.in_err-first.field-0.0 (subst (λ i. Takes c.args.lines.now c.take.new.self (i ∷ [])) (report_line c.in_ok-take.field-0 c.in_ok-take.ensures.fits) c.in_ok-take.ensures.line) c.in_ok-verdict.ensures.verdict c.in_ok-verdict.ensures.counted c.in_err-first.ensures)

pub returns-in_err-parts-clause-answer : goal.returns-in_err-parts-clause-answer
returns-in_err-parts-clause-answer c =
    let f = err_from_is_err_and c.from_residual-in_err-parts.result c.from_residual-in_err-parts.ensures.1 in
    subst (λ r. IsValueRead answer_items at_start c.args.lines.now c.parts.new.lines r) (sym (f.1 ∙ ap Err f.2))
    (no_parts c.args.lines.now c.take.new.self c.verdict.new.lines c.trace.new.lines c.in_ok-verdict.verdict c.in_ok-first.first c.in_err-parts.field-0.0 (subst (λ i. Takes c.args.lines.now c.take.new.self (i ∷ [])) (report_line c.in_ok-take.field-0 c.in_ok-take.ensures.fits) c.in_ok-take.ensures.line) c.in_ok-verdict.ensures.verdict c.in_ok-verdict.ensures.counted c.in_ok-first.ensures c.in_err-parts.ensures.parts)

pub returns-clause-answer : goal.returns-clause-answer
returns-clause-answer c = all_taken c.args.lines.now c.take.new.self c.verdict.new.lines c.trace.new.lines c.parts.new.lines (record { verdict = c.in_ok-verdict.verdict; first = c.in_ok-first.first; parts = c.in_ok-parts.parts }) (subst (λ i. Takes c.args.lines.now c.take.new.self (i ∷ [])) (report_line c.in_ok-take.field-0 c.in_ok-take.ensures.fits) c.in_ok-take.ensures.line) c.in_ok-verdict.ensures.verdict c.in_ok-first.ensures c.in_ok-parts.ensures.parts
