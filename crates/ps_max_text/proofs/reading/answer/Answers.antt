use Rattle.std.proofs.Common.{◌∙◌, ap, subst, Err, ◌∷◌}
use Rattle.std.specs.Prelude.{[]}
use Rattle.std.proofs.lemmas.Result.{err_from_is_err_and}
use Rattle.ps_max_text.specs.Answered.{max_items}
use Rattle.ps_max_text.specs.Parts.{at_start}
use Rattle.ps_max_text.specs.Taken.{Takes}
use Rattle.ps_max_text.proofs.Taking.{value_stopped}
use Rattle.ps_max_text.proofs.Passing.{only_head, only_end}
use Rattle.ps_max_text.proofs.WholeTexts.{no_body, no_end, all_taken}
use Rattle.ps_max_text.proofs.reading.answer.Goals as goal

pub returns-in_err-answer : goal.returns-in_err-answer
returns-in_err-answer c =
    let f = err_from_is_err_and c.from_residual-in_err-answer.result c.from_residual-in_err-answer.ensures.1 in
    value_stopped max_items at_start c.args.lines.now c.body.new.lines c.in_err-answer.field-0.0 c.from_residual-in_err-answer.result
    (no_body c.args.lines.now c.take.new.self c.in_err-answer.field-0.0 (subst (λ i. Takes c.args.lines.now c.take.new.self (i ∷ [])) (only_head c.in_ok-take.field-0 c.in_ok-take.ensures.fits) c.in_ok-take.ensures.line) c.in_err-answer.ensures) (f.1 ∙ ap Err f.2)

pub returns-in_err-take-2 : goal.returns-in_err-take-2
returns-in_err-take-2 c =
    let f = err_from_is_err_and c.from_residual-in_err-take-2.result c.from_residual-in_err-take-2.ensures.1 in
    value_stopped max_items at_start c.args.lines.now c.take-2.new.self c.in_err-take-2.field-0.0 c.from_residual-in_err-take-2.result
    (no_end c.args.lines.now c.take.new.self c.body.new.lines c.in_ok-answer.answer c.in_err-take-2.field-0.0 (subst (λ i. Takes c.args.lines.now c.take.new.self (i ∷ [])) (only_head c.in_ok-take.field-0 c.in_ok-take.ensures.fits) c.in_ok-take.ensures.line) c.in_ok-answer.ensures c.in_err-take-2.ensures.stopped) (f.1 ∙ ap Err f.2)

pub returns : goal.returns
returns c =
    all_taken c.args.lines.now c.take.new.self c.body.new.lines c.take-2.new.self c.in_ok-answer.answer (subst (λ i. Takes c.args.lines.now c.take.new.self (i ∷ [])) (only_head c.in_ok-take.field-0 c.in_ok-take.ensures.fits) c.in_ok-take.ensures.line) c.in_ok-answer.ensures
    (subst (λ i. Takes c.body.new.lines c.take-2.new.self (i ∷ [])) (only_end c.in_ok-take-2.field-0 c.in_ok-take-2.ensures.fits) c.in_ok-take-2.ensures.line)
