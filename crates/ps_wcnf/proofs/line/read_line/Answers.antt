use Rattle.std.proofs.Common.{sym, ◌∙◌}
use Rattle.std.specs.Str.Parse.{digits_value}
use Rattle.ps_wcnf.specs.Splitting.{words_of}
use Rattle.ps_wcnf.proofs.Saying.{told-hard, told-soft}
use Rattle.ps_wcnf.proofs.line.read_line.Goals as goal

pub returns-then-is_hard : goal.returns-then-is_hard
returns-then-is_hard c =
    told-hard c.args.line.now c.in-Some.word.now c.in-Some.after.now _ c.in-Some.ensures.found (sym c.is_comment.ensures ∙ c.if-is_comment.false) (sym c.is_hard.ensures ∙ c.if-is_hard.true)
    (c.hard_of.ensures (words_of c.in-Some.after.now) c.in_ok-literals_in.ensures)

pub returns-in_ok-literals_in-in-Some-count : goal.returns-in_ok-literals_in-in-Some-count
returns-in_ok-literals_in-in-Some-count c =
    told-soft c.args.line.now c.in-Some.word.now c.in-Some.after.now _ c.in-Some.ensures.found (sym c.is_comment.ensures ∙ c.if-is_comment.false) (sym c.is_hard.ensures ∙ c.if-is_hard.false)
    c.in-Some-count.ensures.0
    (c.soft_of.ensures (words_of c.in-Some.after.now) (digits_value 10 c.in-Some.word.now) c.in_ok-literals_in-in-Some-count.ensures c.in-Some-count.ensures.1)
