use Rattle.std.proofs.Common.{◌∙◌, Ok, Err, length, ◌+◌, refl, sym}
use Rattle.ps_log.specs.declared.line_error.LineError.TheVariants.{Truncated, BadByte}
use Rattle.ps_log.proofs.LineAnswers.{value-given, refusal-given, bad-line, line-answer, line-refusal}
use Rattle.ps_log.proofs.GoalAnswers.{goal_texts}
use Rattle.ps_log.proofs.goal_reader.read_goal.Goals as goal

pub returns-in-None-clause-taken : goal.returns-in-None-clause-taken
returns-in-None-clause-taken c = λ s n. value-given goal_texts c.args.bytes.now (Err Truncated) s n c.in-None.ensures.none

pub returns-in-None-clause-refused : goal.returns-in-None-clause-refused
returns-in-None-clause-refused c = λ why. refusal-given goal_texts c.args.bytes.now (Err Truncated) why c.in-None.ensures.none

pub returns-then-not-are_text_bytes-clause-taken : goal.returns-then-not-are_text_bytes-clause-taken
returns-then-not-are_text_bytes-clause-taken c = λ s n. value-given goal_texts c.args.bytes.now (Err BadByte) s n (bad-line goal_texts c.args.bytes.now c.in-Some.line.now c.are_text_bytes.result c.in-Some.ensures.found c.are_text_bytes.ensures c.if-not-are_text_bytes.true)

pub returns-then-not-are_text_bytes-clause-refused : goal.returns-then-not-are_text_bytes-clause-refused
returns-then-not-are_text_bytes-clause-refused c = λ why. refusal-given goal_texts c.args.bytes.now (Err BadByte) why (bad-line goal_texts c.args.bytes.now c.in-Some.line.now c.are_text_bytes.result c.in-Some.ensures.found c.are_text_bytes.ensures c.if-not-are_text_bytes.true)

pub returns-in-Ok-clause-answer : goal.returns-in-Ok-clause-answer
returns-in-Ok-clause-answer c = line-answer goal_texts c.args.bytes.now c.in-Some.line.now c.in-Ok.goal (length c.in-Some.line.now + 1) c.in-Some.ensures.found c.in-Ok.ensures refl

pub returns-in-Ok-clause-taken : goal.returns-in-Ok-clause-taken
returns-in-Ok-clause-taken c = λ s n.
    value-given goal_texts c.args.bytes.now (Ok (c.in-Ok.goal, length c.in-Some.line.now + 1)) s n
    (line-answer goal_texts c.args.bytes.now c.in-Some.line.now c.in-Ok.goal (length c.in-Some.line.now + 1) c.in-Some.ensures.found c.in-Ok.ensures refl)

pub returns-in-Ok-clause-refused : goal.returns-in-Ok-clause-refused
returns-in-Ok-clause-refused c = λ why.
    refusal-given goal_texts c.args.bytes.now (Ok (c.in-Ok.goal, length c.in-Some.line.now + 1)) why
    (line-answer goal_texts c.args.bytes.now c.in-Some.line.now c.in-Ok.goal (length c.in-Some.line.now + 1) c.in-Some.ensures.found c.in-Ok.ensures refl)

pub returns-in-Err-clause-taken : goal.returns-in-Err-clause-taken
returns-in-Err-clause-taken c = λ s n.
    value-given goal_texts c.args.bytes.now (Err c.in-Err.why) s n
    (line-refusal goal_texts c.args.bytes.now c.in-Some.line.now c.in-Err.why c.in-Some.ensures.found (sym c.are_text_bytes.ensures ∙ c.if-not-are_text_bytes.false) c.in-Err.ensures)

pub returns-in-Err-clause-refused : goal.returns-in-Err-clause-refused
returns-in-Err-clause-refused c = λ why.
    refusal-given goal_texts c.args.bytes.now (Err c.in-Err.why) why
    (line-refusal goal_texts c.args.bytes.now c.in-Some.line.now c.in-Err.why c.in-Some.ensures.found (sym c.are_text_bytes.ensures ∙ c.if-not-are_text_bytes.false) c.in-Err.ensures)
