use Rattle.std.proofs.Common.{◌≡◌, subst, sym, ◌∙◌, option_copied}
use Rattle.ps_wcnf.specs.Splitting.{lines_after}
use Rattle.ps_max_commands.specs.Splits.{answer_of_input}
use Rattle.ps_max_commands.proofs.CutInputs.{answer_left, left_later, answer_here, nothing_behind}
use Rattle.ps_max_commands.proofs.splitting.answer_in.Goals as goal

pub loop-rest-preserved : goal.loop-rest-preserved
loop-rest-preserved c =
    subst (λ r. answer_of_input c.args.bytes.now ≡ answer_left (option_copied r)) c.in-Some.is c.loop-rest.invariant
    ∙ left_later c.in-Some.text.now c.next_line.result.0.now (option_copied c.next_line.result.1) c.next_line.ensures.cut (sym c.begins_answer.ensures ∙ c.if-begins_answer.false)

pub returns-then-begins_answer : goal.returns-then-begins_answer
returns-then-begins_answer c =
    sym (subst (λ r. answer_of_input c.args.bytes.now ≡ answer_left (option_copied r)) c.in-Some.is c.loop-rest.invariant
    ∙ answer_here c.in-Some.text.now c.next_line.result.0.now (lines_after (option_copied c.next_line.result.1)) c.next_line.ensures.lines (sym c.begins_answer.ensures ∙ c.if-begins_answer.true))

pub returns : goal.returns
returns c = nothing_behind c.args.bytes.now ∙ sym (subst (λ r. answer_of_input c.args.bytes.now ≡ answer_left (option_copied r)) c.in_default.is c.loop-rest.invariant)
