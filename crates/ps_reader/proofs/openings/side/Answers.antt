use Rattle.std.proofs.Common.{true≢false, sym, ap, Err, ◌∙◌, ◌∷◌}
use Rattle.std.proofs.lemmas.Result.{err_from_is_err_and}
use Rattle.ps_answer.specs.declared.item.LineItem.TheVariants as line
use Rattle.ps_answer.specs.declared.part.Part.TheVariants as part
use Rattle.ps_reader.specs.Cursor.{words_in}
use Rattle.ps_answer.specs.Words.{side_letters}
use Rattle.ps_reader.proofs.Sequences.{made_ok, made_err}
use Rattle.ps_reader.proofs.OpeningLines.{value_item, open_side_read}
use Rattle.ps_reader.proofs.openings.side.Goals as goal

pub returns-then-is_empty : goal.returns-then-is_empty
returns-then-is_empty c = open_side_read c.args.upper (words_in c.args.words.now) (c.is_empty.ensures.0 c.if-is_empty.true)

pub returns : goal.returns
returns c =
    made_ok (part.ASide c.args.upper) (side_letters c.args.upper ∷ words_in c.args.words.now) (λ a. line.Bound c.args.upper a.0) c.both.result _
    (value_item c.args.upper (words_in c.args.words.now) (words_in c.next.new.self) c.next.result.now c.value-value.result c.end.result c.both.result (λ e. true≢false (sym (c.is_empty.ensures.1 e) ∙ c.if-is_empty.false))
    c.next.ensures.word c.next.ensures.later c.value-value.ensures c.end.ensures c.both.ensures)
    c.in_ok-value.was

pub returns-in_err-value : goal.returns-in_err-value
returns-in_err-value c =
    let f = err_from_is_err_and c.from_residual.result c.from_residual.ensures.1 in
    made_err (part.ASide c.args.upper) (side_letters c.args.upper ∷ words_in c.args.words.now) (λ a. line.Bound c.args.upper a.0) c.both.result c.in_err-value.field-0.0 c.from_residual.result
    (value_item c.args.upper (words_in c.args.words.now) (words_in c.next.new.self) c.next.result.now c.value-value.result c.end.result c.both.result (λ e. true≢false (sym (c.is_empty.ensures.1 e) ∙ c.if-is_empty.false))
    c.next.ensures.word c.next.ensures.later c.value-value.ensures c.end.ensures c.both.ensures)
    c.in_err-value.was (f.1 ∙ ap Err f.2)
