use Rattle.std.proofs.Common.{◌∙◌, Ok, Err, length, ◌+◌, refl, sym}
use Rattle.std.proofs.lemmas.Result.{err_from_is_err_and}
use Rattle.ps_log.specs.declared.line_error.LineError.TheVariants.{Truncated, BadByte}
use Rattle.ps_log.proofs.LineAnswers.{value-given, refusal-given, bad-line, line-answer, line-refusal}
use Rattle.ps_log.proofs.StepAnswers.{step_texts}
use Rattle.ps_log.proofs.step_reader.read_step.Goals as goal

pub returns-in-None-clause-taken : goal.returns-in-None-clause-taken
returns-in-None-clause-taken c = λ s n. value-given step_texts c.args.bytes.now (Err Truncated) s n c.in-None.ensures.none

pub returns-in-None-clause-refused : goal.returns-in-None-clause-refused
returns-in-None-clause-refused c = λ why. refusal-given step_texts c.args.bytes.now (Err Truncated) why c.in-None.ensures.none

pub returns-then-not-are_step_bytes-clause-taken : goal.returns-then-not-are_step_bytes-clause-taken
returns-then-not-are_step_bytes-clause-taken c = λ s n. value-given step_texts c.args.bytes.now (Err BadByte) s n (bad-line step_texts c.args.bytes.now c.in-Some.line.now c.are_step_bytes.result c.in-Some.ensures.found c.are_step_bytes.ensures c.if-not-are_step_bytes.true)

pub returns-then-not-are_step_bytes-clause-refused : goal.returns-then-not-are_step_bytes-clause-refused
returns-then-not-are_step_bytes-clause-refused c = λ why. refusal-given step_texts c.args.bytes.now (Err BadByte) why (bad-line step_texts c.args.bytes.now c.in-Some.line.now c.are_step_bytes.result c.in-Some.ensures.found c.are_step_bytes.ensures c.if-not-are_step_bytes.true)

pub returns-in_err-step-clause-taken : goal.returns-in_err-step-clause-taken
returns-in_err-step-clause-taken c = λ s n.
    let p = err_from_is_err_and c.from_residual.result c.from_residual.ensures.1 in
    rw (p.1, p.2) (value-given step_texts c.args.bytes.now (Err c.in_err-step.field-0.0) s n
    (line-refusal step_texts c.args.bytes.now c.in-Some.line.now c.in_err-step.field-0.0 c.in-Some.ensures.found (sym c.are_step_bytes.ensures ∙ c.if-not-are_step_bytes.false) c.in_err-step.ensures))

pub returns-in_err-step-clause-refused : goal.returns-in_err-step-clause-refused
returns-in_err-step-clause-refused c = λ why.
    let p = err_from_is_err_and c.from_residual.result c.from_residual.ensures.1 in
    rw (p.1, p.2) (refusal-given step_texts c.args.bytes.now (Err c.in_err-step.field-0.0) why
    (line-refusal step_texts c.args.bytes.now c.in-Some.line.now c.in_err-step.field-0.0 c.in-Some.ensures.found (sym c.are_step_bytes.ensures ∙ c.if-not-are_step_bytes.false) c.in_err-step.ensures))

pub returns-clause-answer : goal.returns-clause-answer
returns-clause-answer c = line-answer step_texts c.args.bytes.now c.in-Some.line.now c.in_ok-step.step (length c.in-Some.line.now + 1) c.in-Some.ensures.found c.in_ok-step.ensures refl

pub returns-clause-taken : goal.returns-clause-taken
returns-clause-taken c = λ s n.
    value-given step_texts c.args.bytes.now (Ok (c.in_ok-step.step, length c.in-Some.line.now + 1)) s n
    (line-answer step_texts c.args.bytes.now c.in-Some.line.now c.in_ok-step.step (length c.in-Some.line.now + 1) c.in-Some.ensures.found c.in_ok-step.ensures refl)

pub returns-clause-refused : goal.returns-clause-refused
returns-clause-refused c = λ why.
    refusal-given step_texts c.args.bytes.now (Ok (c.in_ok-step.step, length c.in-Some.line.now + 1)) why
    (line-answer step_texts c.args.bytes.now c.in-Some.line.now c.in_ok-step.step (length c.in-Some.line.now + 1) c.in-Some.ensures.found c.in_ok-step.ensures refl)
